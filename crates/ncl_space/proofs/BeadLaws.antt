-- The distinct beads of tables: their number as a number that computes, and the beads of lists that are
-- joined or whose members are the same.
use Rattle.ncl_space.proofs.Terms.{Beads, Bool, IsAntisymmetric, IsPermutation, IsTotalOrder, List, Some, [], ap, bead_count, beads_of, bool_cmp, bool_cmp_total, cond, distinct_beads, eq_by_cmp, false, flat_map, flat_map-cons, is_bead, list_any, list_any-IsPermutation, list_any-append, lists_total, refl, same_from_both, slice_cmp, slice_cmp-IsAntisymmetric, slice_get, suc, sym, true, zero, ℕ, ◌++◌, ◌+◌, ◌||◌, ◌∙◌, ◌∷◌, ◌≡◌}
use Rattle.std.specs.FinSet as set

pub table_order : IsTotalOrder (slice_cmp bool_cmp)
table_order = lists_total bool_cmp_total

-- how many tables a list has, each counted where it stands last
abbrev pub distinct_count : List (List Bool) → ℕ
distinct_count [] = 0
distinct_count (t ∷ ts) = cond (list_any (eq_by_cmp (slice_cmp bool_cmp) t) ts) (distinct_count ts) (distinct_count ts + 1)

-- so many does their set have
pub len-from_list : (ts : List (List Bool)) → set.len (set.from_list {R = slice_cmp bool_cmp} ts) ≡ distinct_count ts
len-from_list [] = set.len-empty (slice_cmp bool_cmp)
len-from_list (t ∷ ts) =
    set.len-insert table_order (set.from_list ts) t
    ∙ ap (λ b. cond b (set.len (set.from_list {R = slice_cmp bool_cmp} ts)) (set.len (set.from_list {R = slice_cmp bool_cmp} ts) + 1)) (set.contains-from_list table_order ts t)
    ∙ ap (λ n. cond (list_any (eq_by_cmp (slice_cmp bool_cmp) t) ts) n (n + 1)) (len-from_list ts)

pub bead_count-computes : (n : ℕ) (tables : List (List Bool)) → bead_count n tables ≡ distinct_count (flat_map (beads_of n) tables)
bead_count-computes n tables = len-from_list (flat_map (beads_of n) tables)

bool_order_tells : IsAntisymmetric bool_cmp
bool_order_tells true true e = refl
bool_order_tells true false e = absurd cc
bool_order_tells false true e = absurd cc
bool_order_tells false false e = refl

-- tables that compare as equal are one
pub one_table : (t u : List Bool) → eq_by_cmp (slice_cmp bool_cmp) t u ≡ true → t ≡ u
one_table [] [] e = refl
one_table [] (y ∷ u) e = absurd cc
one_table (x ∷ t) [] e = absurd cc
one_table (true ∷ t) (true ∷ u) e = ap (λ l. true ∷ l) (one_table t u e)
one_table (false ∷ t) (false ∷ u) e = ap (λ l. false ∷ l) (one_table t u e)
one_table (true ∷ t) (false ∷ u) e = absurd cc
one_table (false ∷ t) (true ∷ u) e = absurd cc

-- and one table compares as equal
pub table_ties : (t : List Bool) → eq_by_cmp (slice_cmp bool_cmp) t t ≡ true
table_ties [] = refl
table_ties (true ∷ t) = table_ties t
table_ties (false ∷ t) = table_ties t

-- sets with the same beads are one
pub one_set : (s t : Beads) → ((bead : List Bool) → set.contains s bead ≡ set.contains t bead) → s ≡ t
one_set s t h = set.same_set table_order (slice_cmp-IsAntisymmetric bool_order_tells) s t h

list_any-flat_map : {X Y : Type 0} (test : Y → Bool) (f : X → List Y) (xs : List X) → list_any test (flat_map f xs) ≡ list_any (λ x. list_any test (f x)) xs
list_any-flat_map test f [] = refl
list_any-flat_map test f (x ∷ xs) =
    ap (list_any test) (flat_map-cons f x xs)
    ∙ list_any-append test (f x) (flat_map f xs)
    ∙ ap (λ b. list_any test (f x) || b) (list_any-flat_map test f xs)

-- a table is a bead of a list of tables where it is one of some member
pub contains-distinct_beads : (n : ℕ) (tables : List (List Bool)) (bead : List Bool) → set.contains (distinct_beads n tables) bead ≡ list_any (λ t. is_bead (beads_of n t) bead) tables
contains-distinct_beads n tables bead = set.contains-from_list table_order (flat_map (beads_of n) tables) bead ∙ list_any-flat_map (eq_by_cmp (slice_cmp bool_cmp) bead) (beads_of n) tables

-- the beads of tables in another order are as many
pub bead_count-permuted : (n : ℕ) (ts us : List (List Bool)) → IsPermutation ts us → bead_count n ts ≡ bead_count n us
bead_count-permuted n ts us moved =
    ap set.len
    (one_set (distinct_beads n ts) (distinct_beads n us) (λ bead.
    contains-distinct_beads n ts bead ∙ list_any-IsPermutation (λ t. is_bead (beads_of n t) bead) ts us moved ∙ sym (contains-distinct_beads n us bead)))

-- the beads of two lists are those of the one and those of the other
pub distinct_beads-append : (n : ℕ) (ts us : List (List Bool)) → distinct_beads n (ts ++ us) ≡ set.union (distinct_beads n ts) (distinct_beads n us)
distinct_beads-append n ts us = one_set _ _ (λ bead.
    contains-distinct_beads n (ts ++ us) bead
    ∙ list_any-append (λ t. is_bead (beads_of n t) bead) ts us
    ∙ (λ i. sym (contains-distinct_beads n ts bead) i || sym (contains-distinct_beads n us bead) i)
    ∙ sym (set.contains-union table_order (distinct_beads n ts) (distinct_beads n us) bead))

-- a list has the members of another
pub record HasMembers (ts us : List (List Bool)) : Type 0 where
  pub has : (k : ℕ) (t : List Bool) → slice_get us k ≡ Some t → (j : ℕ) × (slice_get ts j ≡ Some t)

-- a test that some member passes is passed by some member of a list that has them
list_any-among : (test : List Bool → Bool) (ts us : List (List Bool)) → HasMembers ts us → list_any test us ≡ true → list_any test ts ≡ true
list_any-among test ts us among some =
    let p = passing us some in
    let at = among.has p.0 p.1 p.2 in
    found ts at.0 p.1 at.1 p.3
  where
    step : (u : List Bool) (us : List (List Bool)) → ((k : ℕ) × (t : List Bool) × (slice_get us k ≡ Some t) × (test t ≡ true)) → (k : ℕ) × (t : List Bool) × (slice_get (u ∷ us) k ≡ Some t) × (test t ≡ true)
    step u us (k, t, is, pass) = (suc k, t, is, pass)

    by : (u : List Bool) (us : List (List Bool)) (b : Bool) → test u ≡ b → (list_any test us ≡ true → (k : ℕ) × (t : List Bool) × (slice_get us k ≡ Some t) × (test t ≡ true)) → (b || list_any test us) ≡ true → (k : ℕ) × (t : List Bool) × (slice_get (u ∷ us) k ≡ Some t) × (test t ≡ true)
    by u us true is rest h = (0, u, refl, is)
    by u us false is rest h = step u us (rest h)

    passing : (us : List (List Bool)) → list_any test us ≡ true → (k : ℕ) × (t : List Bool) × (slice_get us k ≡ Some t) × (test t ≡ true)
    passing [] h = absurd cc
    passing (u ∷ us) h = by u us (test u) refl (passing us) h

    found : (ts : List (List Bool)) (j : ℕ) (t : List Bool) → slice_get ts j ≡ Some t → test t ≡ true → list_any test ts ≡ true
    found [] j t is pass = absurd cc
    found (u ∷ ts) zero t is pass = let one : u ≡ t = cc in ap (λ (v : List Bool). test v || list_any test ts) one ∙ ap (λ b. b || list_any test ts) pass
    found (u ∷ ts) (suc j) t is pass = either_true (test u) (found ts j t is pass)
      where
        either_true : (b : Bool) {d : Bool} → d ≡ true → (b || d) ≡ true
        either_true true e = refl
        either_true false e = e

-- lists with the same members have the same beads
pub distinct_beads-same : (n : ℕ) (ts us : List (List Bool)) → HasMembers ts us → HasMembers us ts → distinct_beads n ts ≡ distinct_beads n us
distinct_beads-same n ts us more less = one_set _ _ (λ bead.
    contains-distinct_beads n ts bead
    ∙ same_from_both _ _ (list_any-among (λ t. is_bead (beads_of n t) bead) us ts less) (list_any-among (λ t. is_bead (beads_of n t) bead) ts us more)
    ∙ sym (contains-distinct_beads n us bead))
