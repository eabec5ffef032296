use Rattle.ncl_match.proofs.StepLaws.{[], ap, arith, common_steps, range_with_len-more, range_with_len, sym, ℕ, ◌++◌, ◌+◌, ◌∙◌, ◌∷◌, ◌≡◌}
use Rattle.ncl_match.proofs.steps.first_numbers.Goals as goal

pub loop-number-preserved : goal.loop-number-preserved
loop-number-preserved c =
    let k : ℕ = c.loop-number.number in
    let more : c.push.new.self.items ≡ c.loop-number.numbers.items ++ k ∷ [] = grind (arith, common_steps) in
    let own : 0 + k ≡ k = omega arith in
    more ∙ ap (λ l. l ++ k ∷ []) c.loop-number.invariant ∙ ap (λ x. range_with_len 0 k ++ x ∷ []) (sym own) ∙ sym (range_with_len-more 0 k)
