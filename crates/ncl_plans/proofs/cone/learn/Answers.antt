use Rattle.ncl_plans.proofs.Terms.{FromNode, IsKnown, Some, length, refl, slice_get, slice_get_read, subst, sym, ◌∙◌, ◌≡◌}
use Rattle.ncl_plans.proofs.Cones.{IsKnown-push}
use Rattle.ncl_plans.proofs.cone.learn.Goals as goal

pub returns : goal.returns
returns c = λ value respects known.
    let nodes = c.args.nodes.now in
    let node = c.in-Some.node.now in
    let look = c.in-Some.ensures.lookup in
    let at : slice_get nodes c.args.place ≡ Some node = slice_get_read nodes (length nodes) c.args.place node refl look.3.0 look.1 in
    let here = respects c.args.place node at ∙ c.in_ok-bit.ensures value (subst (IsKnown value) (sym c.deref.ensures.value) known) in
    IsKnown-push value c.args.known.now.items c.push.new.self.items (record { from = FromNode c.args.place; bit = c.in_ok-bit.bit }) known here c.in_ok-push.ensures.items
