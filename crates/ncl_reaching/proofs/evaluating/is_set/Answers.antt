use Rattle.ncl_reaching.proofs.Terms.{ap, length, pin_values, set_of, subst, take_all, value_in, ◌∙◌, ◌≤◌}
use Rattle.ncl_reaching.proofs.evaluating.is_set.Goals as goal

pub returns : goal.returns
returns c =
    let g = c.args.gate.now in
    c.set.ensures
    ∙ ap (set_of g.kind)
    (c.as_slice.ensures.value ∙ c.loop-net.invariant
    ∙ ap (pin_values (value_in c.args.values.now)) (take_all c.loop-net.net-index g.ins.items (subst (λ xs. length xs ≤ c.loop-net.net-index) c.as_slice-net-items.ensures.value c.loop-net-test.false)))
