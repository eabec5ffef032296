use Rattle.ncl_blif.proofs.Terms.{HasBits, ap, arith, cycle, eqb, eqb-true, false, inl, inr, length, no_bits, suc, sym, undriven, zero, ℕ, ◌<◌, ◌∙◌, ◌≡◌}
use Rattle.ncl_blif.proofs.NumberedLaws.{covers_driven}
use Rattle.ncl_blif.proofs.finish.faultless_covers.Goals as goal
use Rattle.ncl_blif.proofs.finish.faultless_covers.Goals.{then-inputs-eq0-via-then-inputs-eq0, then-inputs-eq0-via-else-inputs-eq0+then-is_empty}

above_zero : (n : ℕ) → eqb n 0 ≡ false → 0 < n
above_zero zero h = absurd cc
above_zero (suc n) h = omega arith

pub returns-then-inputs-eq0-clause-refused : goal.returns-then-inputs-eq0-clause-refused
returns-then-inputs-eq0-clause-refused c =
    elim c.then-inputs-eq0.branch [
      | then-inputs-eq0-via-then-inputs-eq0 w ↦ inr (no_bits (inl (omega arith)))
      | then-inputs-eq0-via-else-inputs-eq0+then-is_empty w ↦
          let none : length w.outputs.result.now ≡ 0 = eqb-true _ 0 (sym w.is_empty.ensures ∙ w.if-is_empty.true) in
          inr (no_bits (inr (ap length (sym w.outputs.ensures) ∙ none)))
    ]

pub returns-in-Some-clause-refused : goal.returns-in-Some-clause-refused
returns-in-Some-clause-refused c =
    let some : 0 < length c.outputs.result.now = above_zero _ (sym c.is_empty.ensures ∙ c.if-is_empty.false) in
    let bits : HasBits c.args.draft.now = (omega arith, omega (arith, ap length c.outputs.ensures)) in
    inr (undriven c.in-Some.line bits (sym c.in-Some.ensures))

pub numbered_covers-requires : goal.numbered_covers-requires
numbered_covers-requires c = covers_driven c.args.draft.now (sym c.in_default.ensures)

pub returns-in-Some-2-clause-refused : goal.returns-in-Some-2-clause-refused
returns-in-Some-2-clause-refused c =
    let some : 0 < length c.outputs.result.now = above_zero _ (sym c.is_empty.ensures ∙ c.if-is_empty.false) in
    let bits : HasBits c.args.draft.now = (omega arith, omega (arith, ap length c.outputs.ensures)) in
    inr (cycle c.in-Some-2.line bits (sym c.in_default.ensures) (rw c.in-Some-2.is at c.in_ok-line.ensures))
