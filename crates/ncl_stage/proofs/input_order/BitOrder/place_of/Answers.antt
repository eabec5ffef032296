use Rattle.std.proofs.Common.{◌<◌, List, ℕ, length, sym, subst}
use Rattle.ncl_stage.proofs.input_order.BitOrder.place_of.Goals as goal

pub place_of-requires : goal.place_of-requires
place_of-requires c = c.self.invariant.0.each c.args.bit (subst (λ (order : List ℕ). c.args.bit < length order) (sym c.self.view_is) c.requires)
