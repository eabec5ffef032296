-- What is held as a set, and exactly where a table fits.
use Rattle.ncl_diagram.proofs.Terms.{Beads, Bool, Held, HoldsOnly, HoldsWith, IsCanonical, IsTooMuch, List, Node, Some, SpaceData, [], ap, arith, bead_of, beads_from, beads_of, bool_cmp, cond, distinct_beads, distinct_count, eq_by_cmp, false, flat_map, held_of, inl, inr, is_bead, len-from_list, len_grows, length, list_any, nat_le, nat_tests, one_set, one_table, refl, same_from_both, slice_cmp, slice_get, subst, suc, sym, table_order, table_ties, true, zero, ℕ, ◌++◌, ◌+◌, ◌||◌, ◌∙◌, ◌∷◌, ◌≡◌, ◌≤◌, ◌⊎◌}
use Rattle.std.specs.FinSet as set
use Rattle.std.specs.Prelude.{None}
use Rattle.ncl_diagram.proofs.BeadTests.{either}
use Rattle.ncl_diagram.proofs.Holding.{beads_differ}

-- a member is the bead of some node
found_from : (n : ℕ) (nodes : List Node) (k : ℕ) (xs : List Node) (t : List Bool) → is_bead (beads_from n nodes k xs) t ≡ true → (i j : ℕ) × (x : Node) × (i ≡ k + j) × (slice_get xs j ≡ Some x) × (bead_of n nodes i x ≡ t)
found_from n nodes k [] t h = absurd (grind arith)
found_from n nodes k (x ∷ xs) t h = by (λ q. found_from n nodes (suc k) xs t q) (either (eq_by_cmp (slice_cmp bool_cmp) t (bead_of n nodes k x)) (is_bead (beads_from n nodes (suc k) xs) t) h)
  where
    Found : ℕ → List Node → Type 0
    Found k xs = (i j : ℕ) × (x : Node) × (i ≡ k + j) × (slice_get xs j ≡ Some x) × (bead_of n nodes i x ≡ t)

    by : (is_bead (beads_from n nodes (suc k) xs) t ≡ true → Found (suc k) xs) → (eq_by_cmp (slice_cmp bool_cmp) t (bead_of n nodes k x) ≡ true) ⊎ (is_bead (beads_from n nodes (suc k) xs) t ≡ true) → Found k (x ∷ xs)
    by rec (inl e) = (k, 0, x, omega arith, refl, sym (one_table t (bead_of n nodes k x) e))
    by rec (inr q) = let r = rec q in let e = r.3 in (r.0, suc r.1, r.2, omega arith, r.4, r.5)

-- and the bead of each node is a member
member_from : (n : ℕ) (nodes : List Node) (k i j : ℕ) (xs : List Node) (x : Node) → i ≡ k + j → slice_get xs j ≡ Some x → is_bead (beads_from n nodes k xs) (bead_of n nodes i x) ≡ true
member_from n nodes k i j [] x e g = absurd (grind arith)
member_from n nodes k i zero (y ∷ xs) x e g =
    let is : y ≡ x = cc in
    let at : i ≡ k = omega arith in
    (λ l. eq_by_cmp (slice_cmp bool_cmp) (bead_of n nodes i x) (bead_of n nodes (sym at l) (is l)) || is_bead (beads_from n nodes (suc k) xs) (bead_of n nodes i x))
    ∙ ap (λ (b : Bool). b || is_bead (beads_from n nodes (suc k) xs) (bead_of n nodes i x)) (table_ties (bead_of n nodes i x))
member_from n nodes k i (suc j) (y ∷ xs) x e g = or_true (eq_by_cmp (slice_cmp bool_cmp) (bead_of n nodes i x) (bead_of n nodes k y)) _ (member_from n nodes (suc k) i j xs x (omega arith) g)
  where
    or_true : (a b : Bool) → b ≡ true → (a || b) ≡ true
    or_true true b h = refl
    or_true false b h = h

pub held_from_set : (n : ℕ) (nodes : List Node) (t : List Bool) → set.contains (held_of n nodes) t ≡ true → Held n nodes t
held_from_set n nodes t h =
    let r = found_from n nodes 0 nodes t (sym (set.contains-from_list table_order (beads_from n nodes 0 nodes) t) ∙ h) in
    let e : r.0 ≡ r.1 = let q = r.3 in omega arith in
    (r.0, r.2, ap (slice_get nodes) e ∙ r.4, r.5)

pub set_from_held : (n : ℕ) (nodes : List Node) (t : List Bool) → Held n nodes t → set.contains (held_of n nodes) t ≡ true
set_from_held n nodes t h =
    set.contains-from_list table_order (beads_from n nodes 0 nodes) t
    ∙ subst (λ (u : List Bool). is_bead (beads_from n nodes 0 nodes) u ≡ true) h.3 (member_from n nodes 0 h.0 h.0 nodes h.1 (omega arith) h.2)

no_more : (xs : List (List Bool)) → xs ++ [] ≡ xs
no_more [] = refl
no_more (x ∷ xs) = ap (λ l. x ∷ l) (no_more xs)

pub single_bead : (n : ℕ) (made t : List Bool) → set.contains (distinct_beads n (made ∷ [])) t ≡ is_bead (beads_of n made) t
single_bead n made t = set.contains-from_list table_order (flat_map (beads_of n) (made ∷ [])) t ∙ ap (λ (bs : List (List Bool)). is_bead bs t) (no_more (beads_of n made))

left : (a b : Bool) → a ≡ true → (a || b) ≡ true
left true b e = refl
left false b e = absurd (grind arith)

right : (a b : Bool) → b ≡ true → (a || b) ≡ true
right true b e = refl
right false b e = e

-- after Ok what is held is a union
pub held_is : (n : ℕ) (old new : List Node) (made : List Bool) → HoldsWith n old new made → held_of n new ≡ set.union (held_of n old) (distinct_beads n (made ∷ []))
held_is n old new made h = one_set _ _ (λ t. same_from_both _ _ (there t) (back t))
  where
    union_is : (t : List Bool) → set.contains (set.union (held_of n old) (distinct_beads n (made ∷ []))) t ≡ (set.contains (held_of n old) t || is_bead (beads_of n made) t)
    union_is t = set.contains-union table_order (held_of n old) (distinct_beads n (made ∷ [])) t ∙ ap (λ (b : Bool). set.contains (held_of n old) t || b) (single_bead n made t)

    there : (t : List Bool) → set.contains (held_of n new) t ≡ true → set.contains (set.union (held_of n old) (distinct_beads n (made ∷ []))) t ≡ true
    there t e = union_is t ∙ by (h.only t (held_from_set n new t e))
      where
        by : Held n old t ⊎ (is_bead (beads_of n made) t ≡ true) → (set.contains (held_of n old) t || is_bead (beads_of n made) t) ≡ true
        by (inl q) = left _ _ (set_from_held n old t q)
        by (inr q) = right _ _ q

    back : (t : List Bool) → set.contains (set.union (held_of n old) (distinct_beads n (made ∷ []))) t ≡ true → set.contains (held_of n new) t ≡ true
    back t e = by (either (set.contains (held_of n old) t) (is_bead (beads_of n made) t) (sym (union_is t) ∙ e))
      where
        by : (set.contains (held_of n old) t ≡ true) ⊎ (is_bead (beads_of n made) t ≡ true) → set.contains (held_of n new) t ≡ true
        by (inl q) = set_from_held n new t (h.kept t (held_from_set n old t q))
        by (inr q) = set_from_held n new t (h.beads t q)

-- as many beads are held as there are nodes
count_from : (n : ℕ) (nodes : List Node) → IsCanonical n nodes → (k : ℕ) (xs : List Node) → ((j : ℕ) (x : Node) → slice_get xs j ≡ Some x → slice_get nodes (k + j) ≡ Some x) → distinct_count (beads_from n nodes k xs) ≡ length xs
count_from n nodes c k [] h = refl
count_from n nodes c k (x ∷ xs) h =
    let rest = count_from n nodes c (suc k) xs (λ j y g. let e : k + suc j ≡ suc k + j = omega arith in ap (slice_get nodes) (sym e) ∙ h (suc j) y g) in
    ap (λ (b : Bool). cond b (distinct_count (beads_from n nodes (suc k) xs)) (distinct_count (beads_from n nodes (suc k) xs) + 1)) absent ∙ omega arith
  where
    not_true : (b : Bool) → (b ≡ true → ⊥) → b ≡ false
    not_true true f = absurd (f refl)
    not_true false f = refl

    absent : list_any (eq_by_cmp (slice_cmp bool_cmp) (bead_of n nodes k x)) (beads_from n nodes (suc k) xs) ≡ false
    absent = not_true _ (λ q.
        let r = found_from n nodes (suc k) xs (bead_of n nodes k x) q in
        let i = r.3 in
        let e : k + suc r.1 ≡ r.0 = omega arith in
        let z : k + 0 ≡ k = omega arith in
        let same = beads_differ n nodes c r.0 k r.2 x (ap (slice_get nodes) (sym e) ∙ h (suc r.1) r.2 r.4) (ap (slice_get nodes) (sym z) ∙ h 0 x refl) r.5 in
        omega arith)

pub len-held : (n : ℕ) (nodes : List Node) → IsCanonical n nodes → set.len (held_of n nodes) ≡ length nodes
len-held n nodes c = len-from_list (beads_from n nodes 0 nodes) ∙ count_from n nodes c 0 nodes (λ j x g. let e : 0 + j ≡ j = omega arith in ap (slice_get nodes) e ∙ g)

not_held : (b : Bool) → (b ≡ true → ⊥) → b ≡ false
not_held true f = absurd (f refl)
not_held false f = refl

not_le : (m limit : ℕ) → limit + 1 ≤ m → nat_le m limit ≡ false
not_le m limit h = grind (arith, nat_tests)

-- after Full the table doesn't fit
pub fits_not : (n : ℕ) (old new : List Node) (made : List Bool) (limit : ℕ) → IsCanonical n new → HoldsOnly n old new made → IsTooMuch n new made limit → nat_le (set.len (set.union (held_of n old) (distinct_beads n (made ∷ [])))) limit ≡ false
fits_not n old new made limit c only full = not_le _ limit (subst (λ (m : ℕ). m ≤ set.len (set.union (held_of n old) (distinct_beads n (made ∷ [])))) count (subst (λ (s : Beads). set.len more ≤ set.len s) same (len_grows space (made ∷ []))))
  where
    more : Beads
    more = set.insert (held_of n new) full.bead

    space : SpaceData
    space = record { width = n; limit = None; live = λ r. false; table = λ r. []; held = more; stands = λ m. false; live_at = λ m r. false; held_at = λ m. more }

    count : set.len more ≡ limit + 1
    count =
        set.len-insert table_order (held_of n new) full.bead
        ∙ ap (λ (b : Bool). cond b (set.len (held_of n new)) (set.len (held_of n new) + 1)) (not_held _ (λ h. full.lacking (held_from_set n new full.bead h)))
        ∙ ap (λ (m : ℕ). m + 1) (len-held n new c ∙ full.count)

    more_is : (t : List Bool) → set.contains (set.union more (distinct_beads n (made ∷ []))) t ≡ ((eq_by_cmp (slice_cmp bool_cmp) t full.bead || set.contains (held_of n new) t) || is_bead (beads_of n made) t)
    more_is t = set.contains-union table_order more (distinct_beads n (made ∷ [])) t ∙ (λ i. set.contains-insert table_order (held_of n new) full.bead t i || single_bead n made t i)

    old_is : (t : List Bool) → set.contains (set.union (held_of n old) (distinct_beads n (made ∷ []))) t ≡ (set.contains (held_of n old) t || is_bead (beads_of n made) t)
    old_is t = set.contains-union table_order (held_of n old) (distinct_beads n (made ∷ [])) t ∙ ap (λ (b : Bool). set.contains (held_of n old) t || b) (single_bead n made t)

    from_new : (t : List Bool) → Held n old t ⊎ (is_bead (beads_of n made) t ≡ true) → (set.contains (held_of n old) t || is_bead (beads_of n made) t) ≡ true
    from_new t (inl q) = left _ _ (set_from_held n old t q)
    from_new t (inr q) = right _ _ q

    from_bead : (t : List Bool) → (eq_by_cmp (slice_cmp bool_cmp) t full.bead ≡ true) ⊎ (set.contains (held_of n new) t ≡ true) → (set.contains (held_of n old) t || is_bead (beads_of n made) t) ≡ true
    from_bead t (inl e) = right _ _ (subst (λ (u : List Bool). is_bead (beads_of n made) u ≡ true) (sym (one_table t full.bead e)) full.needed)
    from_bead t (inr q) = from_new t (only.only t (held_from_set n new t q))

    from_more : (t : List Bool) → ((eq_by_cmp (slice_cmp bool_cmp) t full.bead || set.contains (held_of n new) t) ≡ true) ⊎ (is_bead (beads_of n made) t ≡ true) → (set.contains (held_of n old) t || is_bead (beads_of n made) t) ≡ true
    from_more t (inl e) = from_bead t (either _ _ e)
    from_more t (inr q) = right _ _ q

    to_more : (t : List Bool) → (set.contains (held_of n old) t ≡ true) ⊎ (is_bead (beads_of n made) t ≡ true) → ((eq_by_cmp (slice_cmp bool_cmp) t full.bead || set.contains (held_of n new) t) || is_bead (beads_of n made) t) ≡ true
    to_more t (inl q) = left _ _ (right _ _ (set_from_held n new t (only.kept t (held_from_set n old t q))))
    to_more t (inr q) = right _ _ q

    same : set.union more (distinct_beads n (made ∷ [])) ≡ set.union (held_of n old) (distinct_beads n (made ∷ []))
    same = one_set _ _ (λ t. same_from_both _ _ (λ h. old_is t ∙ from_more t (either _ _ (sym (more_is t) ∙ h))) (λ h. more_is t ∙ to_more t (either _ _ (sym (old_is t) ∙ h))))

le_true : (m limit : ℕ) → m ≤ limit → nat_le m limit ≡ true
le_true m limit h = grind (arith, nat_tests)

-- after Ok it does
pub fits_all : (n : ℕ) (old new : List Node) (made : List Bool) (limit : ℕ) → IsCanonical n new → HoldsWith n old new made → length new ≤ limit → nat_le (set.len (set.union (held_of n old) (distinct_beads n (made ∷ [])))) limit ≡ true
fits_all n old new made limit c h few = le_true _ limit (let e = ap set.len (sym (held_is n old new made h)) ∙ len-held n new c in omega arith)
