-- Numbers in a row.
use Rattle.ncl_base.proofs.Terms.{[], ap, arith, cases_eq, inl, inr, range_with_len, subst, suc, zero, ℕ, ◌++◌, ◌+◌, ◌<◌, ◌∙◌, ◌∷◌, ◌≡◌, ◌≤◌}
use Rattle.ncl_base.proofs.Members.{Member, here, there}

-- each number from the first on and below the end is a member
pub Member-range : (first count k : ℕ) → first ≤ k → k < first + count → Member k (range_with_len first count)
Member-range first zero k low high = absurd (omega arith)
Member-range first (suc count) k low high =
    elim (cases_eq first k) [
      | inl same ↦ subst (λ n. Member n (first ∷ range_with_len (first + 1) count)) same here
      | inr other ↦ there (Member-range (first + 1) count k (omega arith) (omega arith))
    ]

-- and a member is below the end
pub below_of_range : (first count k : ℕ) → Member k (range_with_len first count) → k < first + count
below_of_range first zero k m = elim m [ ]
below_of_range first (suc count) _ here = omega arith
below_of_range first (suc count) k (there m) = let below = below_of_range (first + 1) count k m in omega (arith, below)

-- one number more stands at the end
pub range_with_len-more : (first count : ℕ) → range_with_len first (count + 1) ≡ range_with_len first count ++ (first + count) ∷ []
range_with_len-more first zero = let last : first ≡ first + 0 = omega arith in ap (λ k. k ∷ []) last
range_with_len-more first (suc count) =
    let last : first + 1 + count ≡ first + suc count = omega arith in
    let longer : suc count + 1 ≡ suc (count + 1) = omega arith in
    ap (range_with_len first) longer ∙ ap (λ ks. first ∷ ks) (range_with_len-more (first + 1) count ∙ ap (λ k. range_with_len (first + 1) count ++ k ∷ []) last)
