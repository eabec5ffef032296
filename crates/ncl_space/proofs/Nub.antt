-- The number of distinct members of a list is no more than the length of a list that has all of them.
use Rattle.std.specs.List.{IsDistinct}
use Rattle.ncl_space.proofs.Terms.{AllByRecursion, Bool, IsEquivalence, List, [], arith, bool_cmp, bool_cmp_total, both_ways, cond, eq_by_cmp, eq_by_cmp_equiv, false, false_from_ne_true, inl, inr, is_member, length, length-le_from_is_member, list_any, lists_total, or_cases, or_left, or_parts, or_right, refl, slice_cmp, subst, true, ◌+◌, ◌∷◌, ◌≡◌, ◌≤◌}
use Rattle.ncl_space.proofs.BeadLaws.{distinct_count}

-- two tables are one
abbrev pub same : List Bool → List Bool → Bool
same = eq_by_cmp (slice_cmp bool_cmp)

pub laws : IsEquivalence same
laws = eq_by_cmp_equiv (lists_total bool_cmp_total)

-- these tables
abbrev nub : List (List Bool) → List (List Bool)
nub [] = []
nub (t ∷ ts) = cond (list_any (same t) ts) (nub ts) (t ∷ nub ts)

nub-length : (ts : List (List Bool)) → length (nub ts) ≡ distinct_count ts
nub-length [] = refl
nub-length (t ∷ ts) = by_test (list_any (same t) ts) (nub-length ts)
  where
    by_test : (b : Bool) → length (nub ts) ≡ distinct_count ts → length (cond b (nub ts) (t ∷ nub ts)) ≡ cond b (distinct_count ts) (distinct_count ts + 1)
    by_test true e = e
    by_test false e = omega arith

nub-within : (ts : List (List Bool)) (q : List Bool) → list_any (same q) (nub ts) ≡ true → list_any (same q) ts ≡ true
nub-within [] q e = e
nub-within (t ∷ ts) q e = by_test (list_any (same t) ts) (nub-within ts q) e
  where
    by_test : (b : Bool) → (list_any (same q) (nub ts) ≡ true → list_any (same q) ts ≡ true) → list_any (same q) (cond b (nub ts) (t ∷ nub ts)) ≡ true → list_any (same q) (t ∷ ts) ≡ true
    by_test true rest m = or_right (same q t) (list_any (same q) ts) (rest m)
    by_test false rest m = elim (or_cases (same q t) (list_any (same q) (nub ts)) m) [
      | inl first ↦ or_left (same q t) (list_any (same q) ts) first
      | inr other ↦ or_right (same q t) (list_any (same q) ts) (rest other)
    ]

apart : (t : List Bool) (xs : List (List Bool)) → list_any (same t) xs ≡ false → AllByRecursion (λ y. same t y ≡ false) xs
apart t [] e = tt
apart t (x ∷ xs) e = let (first, rest) = or_parts (same t x) (list_any (same t) xs) e in (first, apart t xs rest)

nub-distinct : (ts : List (List Bool)) → IsDistinct same (nub ts)
unfolding IsDistinct
nub-distinct [] = tt
nub-distinct (t ∷ ts) = by_test (list_any (same t) ts) refl (nub-distinct ts)
  where
    by_test : (b : Bool) → list_any (same t) ts ≡ b → IsDistinct same (nub ts) → IsDistinct same (cond b (nub ts) (t ∷ nub ts))
    by_test true e rest = rest
    by_test false e rest = (apart t (nub ts) (false_from_ne_true _ (λ m. both_ways (list_any (same t) ts) e (nub-within ts t m))), rest)

pub distinct-le : (xs ys : List (List Bool)) → ((q : List Bool) → is_member same xs q ≡ true → is_member same ys q ≡ true) → distinct_count xs ≤ length ys
distinct-le xs ys within = subst (λ n. n ≤ length ys) (nub-length xs) (length-le_from_is_member laws (nub xs) ys (nub-distinct xs) (λ q m. within q (nub-within xs q m)))
