-- Every place, every cell's place and every word is asked.
use Rattle.ncl_verdict.proofs.Terms.{Bool, List, Member, Member-range, None, [], arith, false, here, if◌then◌else◌, inl, inr, inserted, length, member_cases, nat_lt, ordered_by, refl, slice_get, subst, suc, sym, there, true, zero, ℕ, ◌<◌, ◌∷◌, ◌≡◌, ◌⊎◌}
use Rattle.ncl_verdict.specs.Judgement.{below}

-- each number below n
pub Member-below : (n k : ℕ) → k < n → Member k (below n)
Member-below n k lt = Member-range 0 n k (omega arith) (omega arith)

Member-inserted : (key : ℕ → ℕ) (place : ℕ) (places : List ℕ) (k : ℕ) → (place ≡ k) ⊎ Member k places → Member k (inserted key place places)
Member-inserted key place [] k (inl own) = subst (λ x. Member k (x ∷ [])) (sym own) here
Member-inserted key place [] k (inr m) = elim m [ ]
Member-inserted key place (other ∷ places) k at =
    by_test (nat_lt (key place) (key other))
    (elim at [
      | inl own ↦ there (Member-inserted key place places k (inl own))
      | inr m ↦
          elim (member_cases k other places m) [
            | inl first ↦ subst (λ x. Member k (x ∷ inserted key place places)) (sym first) here
            | inr n ↦ there (Member-inserted key place places k (inr n))
          ]
    ])
  where
    by_test : (b : Bool) → Member k (other ∷ inserted key place places) → Member k (if b then place ∷ other ∷ places else other ∷ inserted key place places)
    by_test true later = elim at [ inl own ↦ subst (λ x. Member k (x ∷ other ∷ places)) (sym own) here | inr m ↦ there m ]
    by_test false later = later

-- ordering loses no place
pub Member-ordered_by : (key : ℕ → ℕ) (places : List ℕ) (k : ℕ) → Member k places → Member k (ordered_by key places)
Member-ordered_by key [] k m = elim m [ ]
Member-ordered_by key (place ∷ places) k m =
    elim (member_cases k place places m) [
      | inl own ↦ Member-inserted key place (ordered_by key places) k (inl own)
      | inr n ↦ Member-inserted key place (ordered_by key places) k (inr (Member-ordered_by key places k n))
    ]

-- a place within a list or past its end
pub slice_get-cases : {X : Type 0} (xs : List X) (k : ℕ) → (slice_get xs k ≡ None) ⊎ (k < length xs)
slice_get-cases [] k = inl refl
slice_get-cases (x ∷ xs) zero = inr (omega arith)
slice_get-cases (x ∷ xs) (suc k) = elim (slice_get-cases xs k) [ inl past ↦ inl past | inr within ↦ inr (omega arith) ]
