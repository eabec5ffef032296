-- How calls of a space follow one another: what is held after some tables and after more, and when all fit.
use Rattle.ncl_space.proofs.Terms.{Beads, Bool, IsSpace, Keeps, List, None, Option, Some, SpaceData, Within, [], ap, arith, bead_count, beads_of, bool_cmp, cond, distinct_beads, eq_by_cmp, false, fits, flat_map, inl, inr, is_bead, is_within, nat_tests, or-assoc, or_cases, or_left, or_right, refl, slice_cmp, subst, sym, true, with_tables, ℕ, ◌++◌, ◌+◌, ◌||◌, ◌∙◌, ◌∷◌, ◌≡◌, ◌≤◌, All, IsLive, Ref, zero, suc}
use Rattle.std.specs.FinSet as set
use Rattle.ncl_space.proofs.BeadLaws.{table_order, one_set, distinct_beads-append}

-- where two refs are live, all of the list of the two are
pub both-live : (s : SpaceData) (p q : Ref) → IsLive s p → IsLive s q → All (IsLive s) (p ∷ q ∷ [])
both-live s p q first second zero d lt = first
both-live s p q first second (suc zero) d lt = second
both-live s p q first second (suc (suc k)) d lt = absurd (omega arith)

-- what two calls keep, both keep
pub keeps_along : (a b d : SpaceData) → Keeps a b → Keeps b d → Keeps a d
keeps_along a b d x y = record {
  width = y.width ∙ x.width;
  limit = y.limit ∙ x.limit;
  live = λ r l. y.live r (x.live r l);
  tables = λ r l. y.tables r (x.live r l) ∙ x.tables r l;
  marks = λ m s. let p = x.marks m s in let q = y.marks m p.stands in
      record { stands = q.stands; live_at = λ r. q.live_at r ∙ p.live_at r; held_at = q.held_at ∙ p.held_at };
  held = λ b h. y.held b (x.held b h);
  space = y.space;
}

-- no call keeps everything
pub keeps_all : (a : SpaceData) → IsSpace a → Keeps a a
keeps_all a space = record {
  width = refl;
  limit = refl;
  live = λ r l. l;
  tables = λ r l. refl;
  marks = λ m s. record { stands = s; live_at = λ r. refl; held_at = refl };
  held = λ b h. h;
  space = space;
}

or_within : (a b : Bool) → (b ≡ true → a ≡ true) → (a || b) ≡ a
or_within true b h = refl
or_within false true h = sym (h refl)
or_within false false h = refl

union_along : (s t u : Beads) → set.union (set.union s t) u ≡ set.union s (set.union t u)
union_along s t u = one_set _ _ (λ q.
    set.contains-union table_order (set.union s t) u q
    ∙ ap (λ b. b || set.contains u q) (set.contains-union table_order s t q)
    ∙ or-assoc (set.contains s q) (set.contains t q) (set.contains u q)
    ∙ ap (λ b. set.contains s q || b) (sym (set.contains-union table_order t u q))
    ∙ sym (set.contains-union table_order s (set.union t u) q))

-- what is held after some tables and then more is what is held after all
pub with_more : (a b : SpaceData) (ts us : List (List Bool)) → b.width ≡ a.width → b.held ≡ with_tables a ts → with_tables b us ≡ with_tables a (ts ++ us)
with_more a b ts us w h =
    (λ i. set.union (h i) (distinct_beads (w i) us))
    ∙ union_along a.held (distinct_beads a.width ts) (distinct_beads a.width us)
    ∙ ap (set.union a.held) (sym (distinct_beads-append a.width ts us))

-- so the later ones fit exactly where all fit
pub fits_more : (a b : SpaceData) (ts us : List (List Bool)) → b.width ≡ a.width → b.limit ≡ a.limit → b.held ≡ with_tables a ts → fits b us ≡ fits a (ts ++ us)
fits_more a b ts us w l h = λ i. is_within (l i) (set.len (with_more a b ts us w h i))

-- tables whose beads are held already cost nothing
pub with_kept : (a : SpaceData) (ts : List (List Bool)) → Within (distinct_beads a.width ts) a.held → with_tables a ts ≡ a.held
with_kept a ts h = one_set _ _ (λ q. set.contains-union table_order a.held (distinct_beads a.width ts) q ∙ or_within (set.contains a.held q) _ (h q))

-- no tables cost nothing
pub with_none : (a : SpaceData) → with_tables a [] ≡ a.held
with_none a = with_kept a [] (λ bead h. absurd (no_bead bead (sym (set.contains-from_list table_order [] bead) ∙ h)))
  where
    no_bead : (bead : List Bool) → false ≡ true → ⊥
    no_bead bead e = cc

abbrev add_all : Beads → List (List Bool) → Beads
add_all s [] = s
add_all s (b ∷ bs) = set.insert (add_all s bs) b

contains-add_all : (s : Beads) (bs : List (List Bool)) (q : List Bool) → set.contains (add_all s bs) q ≡ (set.contains s q || is_bead bs q)
contains-add_all s [] q = sym (or_within (set.contains s q) false (λ e. absurd cc))
contains-add_all s (b ∷ bs) q =
    set.contains-insert table_order (add_all s bs) b q
    ∙ ap (λ c. eq_by_cmp (slice_cmp bool_cmp) q b || c) (contains-add_all s bs q)
    ∙ or_front (eq_by_cmp (slice_cmp bool_cmp) q b) (set.contains s q) _
  where
    or_front : (a b c : Bool) → (a || (b || c)) ≡ (b || (a || c))
    or_front true true c = refl
    or_front true false c = refl
    or_front false b c = refl

len-add_all : (s : Beads) (bs : List (List Bool)) → set.len s ≤ set.len (add_all s bs)
len-add_all s [] = omega arith
len-add_all s (b ∷ bs) =
    let e = set.len-insert table_order (add_all s bs) b in
    let h = grows (set.len (add_all s bs)) (set.contains (add_all s bs) b) in
    let i = len-add_all s bs in
    omega (arith, e)
  where
    grows : (n : ℕ) (b : Bool) → n ≤ cond b n (n + 1)
    grows n true = omega arith
    grows n false = omega arith

union-add_all : (n : ℕ) (s : Beads) (ts : List (List Bool)) → set.union s (distinct_beads n ts) ≡ add_all s (flat_map (beads_of n) ts)
union-add_all n s ts = one_set _ _ (λ q.
    set.contains-union table_order s (distinct_beads n ts) q
    ∙ ap (λ b. set.contains s q || b) (set.contains-from_list table_order (flat_map (beads_of n) ts) q)
    ∙ sym (contains-add_all s (flat_map (beads_of n) ts) q))

-- with more tables no fewer beads are held
pub len_grows : (a : SpaceData) (ts : List (List Bool)) → set.len a.held ≤ set.len (with_tables a ts)
len_grows a ts = subst (λ (s : Beads). set.len a.held ≤ set.len s) (sym (union-add_all a.width a.held ts)) (len-add_all a.held (flat_map (beads_of a.width) ts))

-- fewer beads are no more
pub len_within : (s t : Beads) → Within s t → set.len s ≤ set.len t
len_within s t within = subst (λ (u : Beads). set.len s ≤ set.len u) same (len-add_all s (set.items t))
  where
    joined : (a b : Bool) → (a ≡ true → b ≡ true) → (a || b) ≡ b
    joined true b h = sym (h refl)
    joined false b h = refl

    same : add_all s (set.items t) ≡ t
    same = one_set _ _ (λ q.
        contains-add_all s (set.items t) q
        ∙ ap (λ b. set.contains s q || b) (sym (set.contains-items t q))
        ∙ joined (set.contains s q) (set.contains t q) (within q))

within_less : (limit : Option ℕ) (m n : ℕ) → m ≤ n → is_within limit n ≡ true → is_within limit m ≡ true
within_less None m n h e = refl
within_less (Some l) m n h e = grind (arith, nat_tests)

-- tables that fit do so where fewer beads are held
pub fits_fewer : (a : SpaceData) (held : Beads) (ts : List (List Bool)) → Within held a.held → fits a ts ≡ true → is_within a.limit (set.len (set.union held (distinct_beads a.width ts))) ≡ true
fits_fewer a held ts within fit =
    within_less a.limit (set.len (set.union held beads)) (set.len (with_tables a ts)) (len_within (set.union held beads) (with_tables a ts) more) fit
  where
    beads : Beads
    beads = distinct_beads a.width ts

    more : Within (set.union held beads) (with_tables a ts)
    more bead h =
        set.contains-union table_order a.held beads bead
        ∙ (elim (or_cases (set.contains held bead) (set.contains beads bead) (sym (set.contains-union table_order held beads bead) ∙ h)) [
          | inl old ↦ or_left (set.contains a.held bead) (set.contains beads bead) (within bead old)
          | inr new ↦ or_right (set.contains a.held bead) (set.contains beads bead) new
        ])

-- where all fit, the first of them fit
pub fits_part : (a : SpaceData) (ts us : List (List Bool)) → fits a (ts ++ us) ≡ true → fits a ts ≡ true
fits_part a ts us e =
    let b : SpaceData = record { width = a.width; limit = a.limit; live = a.live; table = a.table; held = with_tables a ts; stands = a.stands; live_at = a.live_at; held_at = a.held_at } in
    let more : with_tables b us ≡ with_tables a (ts ++ us) = with_more a b ts us refl refl in
    within_less a.limit (set.len (with_tables a ts)) (set.len (with_tables a (ts ++ us)))
    (subst (λ (s : Beads). set.len (with_tables a ts) ≤ set.len s) more (len_grows b us)) e

-- where the first are too much, all are
pub too_much_by_front : (a : SpaceData) (ts us : List (List Bool)) → fits a ts ≡ false → fits a (ts ++ us) ≡ false
too_much_by_front a ts us e = not_true (fits a (ts ++ us)) (λ h. apart (sym e ∙ fits_part a ts us h))
  where
    not_true : (b : Bool) → (b ≡ true → ⊥) → b ≡ false
    not_true true h = absurd (h refl)
    not_true false h = refl

    apart : false ≡ true → ⊥
    apart e = cc

-- where the beads of some tables are held, those of more with them are the beads of both lists
pub count_of_both : (a : SpaceData) (ts us : List (List Bool)) → a.held ≡ distinct_beads a.width ts → set.len (with_tables a us) ≡ bead_count a.width (ts ++ us)
count_of_both a ts us h = ap (λ (s : Beads). set.len (set.union s (distinct_beads a.width us))) h ∙ sym (ap set.len (distinct_beads-append a.width ts us))
