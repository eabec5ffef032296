use Rattle.ncl_compile.proofs.Terms.{IsBankBetween, ap, arith, inl, inr, length, pairs_read, push_cases, slice_get, slice_index, subst, sym, width_of, widths_of, ◌∙◌, ◌≡◌}
use Rattle.ncl_compile.proofs.banks.banks_of.Goals as goal

pub loop-number-preserved : goal.loop-number-preserved
loop-number-preserved c =
    let models = c.args.models.now in
    let banks = c.loop-number.banks.items in
    let bank = c.in_ok-bank.bank in
    let pushed = c.in_ok-push.ensures.items in (
      omega (arith, c.loop-number.invariant.0, c.in_ok-push.ensures.len),
      λ k one at.
          elim (push_cases banks bank k one (ap (λ l. slice_get l k) (sym pushed) ∙ at)) [
            | inl earlier ↦ c.loop-number.invariant.1 k one earlier
            | inr (place, same) ↦
                let here : c.loop-number.number ≡ k = sym c.loop-number.invariant.0 ∙ sym place in
                subst (λ i. IsBankBetween (pairs_read (width_of models) c.args.stages.now i) (length models) i (slice_index (widths_of models) i) one) here
                (subst (IsBankBetween (pairs_read (width_of models) c.args.stages.now c.loop-number.number) (length models) c.loop-number.number (slice_index (widths_of models) c.loop-number.number)) same c.in_ok-bank.ensures)
          ],
    )
