use Rattle.ncl_plans.proofs.Terms.{IsKnown, ap, plan_value, subst, sym, ◌∙◌}
use Rattle.ncl_plans.proofs.Cones.{same_bits}
use Rattle.ncl_plans.proofs.evaluating.test_word.Goals as goal

pub returns-then-bit-planned : goal.returns-then-bit-planned
returns-then-bit-planned c = λ value respects is.
    let bit = c.in_ok-bit.ensures value (subst (IsKnown value) (sym c.deref-2.ensures.value) (c.in_ok-known.ensures value respects is)) in
    bit ∙ same_bits c.in_ok-bit.bit c.in_ok-planned.planned c.if-bit-planned.true ∙ c.in_ok-planned.ensures ∙ ap (plan_value c.args.choice.now.plan) c.in_ok-from_array.ensures.items
