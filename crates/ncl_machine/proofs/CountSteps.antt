-- A count along a list: what is left of it, one element on and at the end.
use Rattle.ncl_machine.proofs.Terms.{Bool, List, ap, arith, count_of, drop, drop_more, drop_of_length-le, false, get_or, length, true, ℕ, ◌+◌, ◌<◌, ◌∙◌, ◌≡◌, ◌≤◌}
use Rattle.ncl_machine.proofs.Numbers.{one_if}

module _ {X : Type 0} (test : X → Bool) (xs : List X) (k : ℕ) where
  module _ (d : X) (lt : k < length xs) where
    step : count_of test (drop k xs) ≡ one_if (test (get_or xs k d)) + count_of test (drop (k + 1) xs)
    step = ap (count_of test) (drop_more xs k d lt)

    pub count-passed : test (get_or xs k d) ≡ true → count_of test (drop k xs) ≡ count_of test (drop (k + 1) xs) + 1
    count-passed holds = let one = step ∙ ap (λ (b : Bool). one_if b + count_of test (drop (k + 1) xs)) holds in omega (arith, one)

    pub count-failed : test (get_or xs k d) ≡ false → count_of test (drop k xs) ≡ count_of test (drop (k + 1) xs)
    count-failed holds = let one = step ∙ ap (λ (b : Bool). one_if b + count_of test (drop (k + 1) xs)) holds in omega (arith, one)

  pub count-past : length xs ≤ k → count_of test (drop k xs) ≡ 0
  count-past past = ap (count_of test) (drop_of_length-le xs past)
