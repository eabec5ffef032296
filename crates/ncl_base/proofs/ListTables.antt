-- Lists of numbers, as numbers come to them.
use Rattle.ncl_base.proofs.Terms.{Contains, Contains-append_left, Grows, List, [], arith, cases_eq, get_or-set_other, get_or-set_same, inl, inr, length, length-set, items_at, put_into, replicate, subst, suc, sym, zero, ℕ, ◌++◌, ◌<◌, ◌∙◌, ◌∷◌, ◌≡◌}
use Rattle.ncl_base.proofs.Growing.{Contains-last, from_push}

pub grows-along : (count : ℕ) (a b c : List (List ℕ)) → Grows count a b → Grows count b c → Grows count a c
grows-along count a b c first then = record {
  size = then.size ∙ first.size;
  kept = λ place k has. then.kept place k (first.kept place k has);
  below = λ place k has. elim (then.below place k has) [ inl before ↦ first.below place k before | inr lt ↦ inr lt ];
}

put-has : (lists : List (List ℕ)) (place k : ℕ) → place < length lists → Contains (items_at (put_into lists place k) place) k
put-has lists place k lt =
    subst (λ ks. Contains ks k) (sym (get_or-set_same lists place (items_at lists place ++ k ∷ []) [] lt)) (Contains-last (items_at lists place) k)

grows-put : (count : ℕ) (lists : List (List ℕ)) (place k : ℕ) → place < length lists → k < count → Grows count lists (put_into lists place k)
grows-put count lists place k lt few = record {
  size = length-set lists place (items_at lists place ++ k ∷ []);
  kept = λ other j has. elim (cases_eq other place) [
    | inl same ↦ subst (λ n. Contains (items_at (put_into lists place k) n) j) (sym same) (subst (λ ks. Contains ks j) (sym at_place) (Contains-append_left (items_at lists place) (k ∷ []) j (subst (λ n. Contains (items_at lists n) j) same has)))
    | inr apart ↦ subst (λ ks. Contains ks j) (sym (get_or-set_other lists place other (items_at lists place ++ k ∷ []) [] apart)) has
  ];
  below = λ other j has. elim (cases_eq other place) [
    | inl same ↦ elim (from_push (items_at lists place) k j (subst (λ ks. Contains ks j) at_place (subst (λ n. Contains (items_at (put_into lists place k) n) j) same has))) [
      | inl old ↦ inl (subst (λ n. Contains (items_at lists n) j) (sym same) old)
      | inr new ↦ inr (subst (λ n. n < count) new few)
    ]
    | inr apart ↦ inl (subst (λ ks. Contains ks j) (get_or-set_other lists place other (items_at lists place ++ k ∷ []) [] apart) has)
  ];
}
  where
    at_place : items_at (put_into lists place k) place ≡ items_at lists place ++ k ∷ []
    at_place = get_or-set_same lists place (items_at lists place ++ k ∷ []) [] lt

-- empty lists have no number
pub nothing-at : (places place k : ℕ) → Contains (items_at (replicate places []) place) k → ⊥
nothing-at zero place k has = none has
  where
    none : Contains {X = ℕ} [] k → ⊥
    none (place, lt, at) = omega arith
nothing-at (suc places) zero k has = none has
  where
    none : Contains {X = ℕ} [] k → ⊥
    none (place, lt, at) = omega arith
nothing-at (suc places) (suc place) k has = nothing-at places place k has

-- a number comes to a place
pub put-more : (lists new : List (List ℕ)) (place k : ℕ) → new ≡ put_into lists place k → place < length lists → ((count : ℕ) → k < count → Grows count lists new) × Contains (items_at new place) k
put-more lists new place k is lt =
    (λ count few. subst (Grows count lists) (sym is) (grows-put count lists place k lt few), subst (λ now. Contains (items_at now place) k) (sym is) (put-has lists place k lt))
