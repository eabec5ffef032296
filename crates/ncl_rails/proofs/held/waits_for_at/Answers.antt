use Rattle.ncl_rails.proofs.Terms.{Input, false, rules, sym, waits_at, ◌∙◌}
use Rattle.ncl_rails.proofs.Holding.{WaitsFor-at}
use Rattle.ncl_rails.proofs.held.waits_for_at.Goals as goal

pub returns-then-at : goal.returns-then-at
returns-then-at c = λ yes.
    WaitsFor-at (waits_at c.args.waits c.args.word.now) c.args.ins.now c.args.source c.args.place (record { from = Input 0; inverted = false }) c.requires (search rules) (sym c.at.ensures ∙ c.if-at.true)
