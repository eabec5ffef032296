use Rattle.ncl_cells.proofs.Terms.{IsKnown, subst, sym, ◌∙◌}
use Rattle.ncl_plans.proofs.Cones.{same_bits}
use Rattle.ncl_cells.proofs.offer.Trying.test_word.Goals as goal

pub returns-then-bit-offered : goal.returns-then-bit-offered
returns-then-bit-offered c = λ value respects is.
    let known = c.in_ok-known.ensures value respects is in
    let bit = c.in_ok-bit.ensures value (subst (IsKnown value) (sym c.deref.ensures.value) known) in
    let offered = c.in_ok-offered.ensures value (subst (IsKnown value) (sym c.deref-2.ensures.value) known) in
    bit ∙ same_bits c.in_ok-bit.bit c.in_ok-offered.offered c.if-bit-offered.true ∙ sym offered
