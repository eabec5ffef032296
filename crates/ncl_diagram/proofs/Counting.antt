-- How many keys are reached from the operands of one.
use Rattle.ncl_diagram.proofs.Terms.{AddsKeys, Beads, Bool, Grown, IsCanonical, IsDistinct, IsEquivalence, IsFilled, Key, List, Node, None, Reaches, ReachesKey, Some, SpaceData, There, [], along, and_equiv, ap, arith, bead_count, bead_of, beads_of, bit_or, bool_cmp, branch, cases_lt, child, common_steps, cond, contains-distinct_beads, distinct_beads, distinct_count, eq_by_cmp, false, here, if◌then◌else◌, inl, inr, is_bead, is_key, len-from_list, len_grows, length, length-append, length-le_from_is_member, length-map, level_of, list_any, map, mul-le, mul-one, mul_assoc, nat_eq, nat_eq_equiv, nat_tests, on_equiv, one_set, one_table, places, product, reach_of, refl, same_from_both, slice_cmp, slice_get, subst, suc, sym, table_from, table_order, true, zero, ℕ, ⊤, ◌*◌, ◌++◌, ◌+◌, ◌-◌, ◌<◌, ◌||◌, ◌∙◌, ◌∷◌, ◌≡◌, ◌≤◌, ◌⊎◌}
use Rattle.std.specs.FinSet as set
use Rattle.ncl_diagram.proofs.BeadTests.{either}
use Rattle.ncl_diagram.proofs.Canonical.{get_within, length-table_from, one_place}
use Rattle.ncl_diagram.proofs.Growth.{branch_before, get_there, table_grown}
use Rattle.ncl_diagram.proofs.Applying.{some_only}
use Rattle.ncl_diagram.proofs.Holding.{beads_differ}
use Rattle.ncl_diagram.proofs.MemoLaws.{is_key_only}
use Rattle.ncl_diagram.proofs.Step.{bead_high, bead_low, bead_self, next_level, node_high, node_low, table_twice}

-- the beads from a place's own level on are beads from each level before
lift_own : (n : ℕ) (nodes : List Node) (p : ℕ) (t : List Bool) → level_of n nodes p ≤ n → is_bead (beads_of (n - level_of n nodes p) (table_from nodes (n - level_of n nodes p) (level_of n nodes p) p)) t ≡ true → (m level : ℕ) → level + m ≡ n → level ≤ level_of n nodes p → is_bead (beads_of m (table_from nodes m level p)) t ≡ true
lift_own n nodes p t le own zero level e at =
    let rest : 0 ≡ n - level_of n nodes p = omega arith in
    let same : level ≡ level_of n nodes p = omega arith in
    (λ i. is_bead (beads_of (rest i) (table_from nodes (rest i) (same i) p)) t) ∙ own
lift_own n nodes p t le own (suc m) level e at = pick (cases_lt level (level_of n nodes p)) (λ less. lift_own n nodes p t le own m (level + 1) (omega arith) (omega arith))
  where
    pick : (level < level_of n nodes p) ⊎ (level_of n nodes p ≤ level) → (level < level_of n nodes p → is_bead (beads_of m (table_from nodes m (level + 1) p)) t ≡ true) → is_bead (beads_of (suc m) (table_from nodes (suc m) level p)) t ≡ true
    pick (inr less) rec =
        let rest : suc m ≡ n - level_of n nodes p = omega arith in
        let same : level ≡ level_of n nodes p = omega arith in
        (λ i. is_bead (beads_of (rest i) (table_from nodes (rest i) (same i) p)) t) ∙ own
    pick (inl less) rec =
        ap (λ (u : List Bool). is_bead (beads_of (suc m) u) t) (table_twice n nodes m level p (omega arith) (omega arith))
        ∙ bead_low m (table_from nodes m (level + 1) p) (table_from nodes m (level + 1) p) t (length-table_from nodes m (level + 1) p) (rec less)

-- a node's bead is a bead of its own table
own_bead_of : (n : ℕ) (nodes : List Node) → IsCanonical n nodes → (k : ℕ) (x : Node) → slice_get nodes k ≡ Some x → is_bead (beads_of (n - x.bit) (table_from nodes (n - x.bit) x.bit (suc (suc k)))) (bead_of n nodes k x) ≡ true
own_bead_of n nodes c k x got =
    let bit = c.bits k x got in
    let m : ℕ = n - suc x.bit in
    let rest : n - x.bit ≡ suc m = omega arith in
    let within = get_within nodes k x got in
    let before = c.before k x got in
    let low_level = c.low k x got in
    let high_level = c.high k x got in
    let before_low = before.0 in
    let before_high = before.1 in
    let low = node_low nodes k x x.bit got refl in
    let high = node_high nodes k x x.bit got refl in
    let apart : table_from nodes m (x.bit + 1) x.low.place ≡ table_from nodes m (x.bit + 1) x.high.place → ⊥ = λ same.
    c.reduced k x got (one_place n nodes c m (x.bit + 1) x.low.place x.high.place (omega arith) (omega arith) (omega arith) (omega arith) (omega arith) same) in
    let differ : table_from nodes m (x.bit + 1) (branch nodes x.bit false (suc (suc k))) ≡ table_from nodes m (x.bit + 1) (branch nodes x.bit true (suc (suc k))) → ⊥ = λ same.
    apart (ap (table_from nodes m (x.bit + 1)) (sym low) ∙ same ∙ ap (table_from nodes m (x.bit + 1)) high) in
    (λ i. is_bead (beads_of (rest i) (table_from nodes (rest i) x.bit (suc (suc k)))) (table_from nodes (rest i) x.bit (suc (suc k))))
    ∙ bead_self m _ _ (length-table_from nodes m (x.bit + 1) (branch nodes x.bit false (suc (suc k)))) differ

-- a bead of a node's child is a bead of the node's table
child_bead : (n : ℕ) (nodes : List Node) (j : ℕ) (y : Node) (v : Bool) (t : List Bool) → slice_get nodes j ≡ Some y → y.bit < n
    → is_bead (beads_of (n - suc y.bit) (table_from nodes (n - suc y.bit) (y.bit + 1) (branch nodes y.bit v (suc (suc j))))) t ≡ true
    → is_bead (beads_of (n - y.bit) (table_from nodes (n - y.bit) y.bit (suc (suc j)))) t ≡ true
child_bead n nodes j y v t got bit h =
    let rest : n - y.bit ≡ suc (n - suc y.bit) = omega arith in
    (λ i. is_bead (beads_of (rest i) (table_from nodes (rest i) y.bit (suc (suc j)))) t) ∙ by v h
  where
    m : ℕ
    m = n - suc y.bit

    by : (v : Bool) → is_bead (beads_of m (table_from nodes m (y.bit + 1) (branch nodes y.bit v (suc (suc j))))) t ≡ true → is_bead (beads_of (suc m) (table_from nodes (suc m) y.bit (suc (suc j)))) t ≡ true
    by false h = bead_low m _ _ t (length-table_from nodes m (y.bit + 1) (branch nodes y.bit false (suc (suc j)))) h
    by true h = bead_high m _ _ t (length-table_from nodes m (y.bit + 1) (branch nodes y.bit false (suc (suc j)))) h

-- a branch stays, or leads from a node at its bit to a child
branch_cases : (nodes : List Node) (l : ℕ) (v : Bool) (p : ℕ) → p < length nodes + 2 → (branch nodes l v p ≡ p) ⊎ ((j : ℕ) × (y : Node) × (p ≡ suc (suc j)) × (slice_get nodes j ≡ Some y) × (l ≡ y.bit))
branch_cases nodes l v zero there = inl refl
branch_cases nodes l v (suc zero) there = inl refl
branch_cases nodes l v (suc (suc j)) there = let q = get_there nodes j (omega arith) in by v q.0 q.1 (nat_eq q.0.bit l) refl
  where
    by : (v : Bool) (y : Node) → slice_get nodes j ≡ Some y → (b : Bool) → nat_eq y.bit l ≡ b → (branch nodes l v (suc (suc j)) ≡ suc (suc j)) ⊎ ((i : ℕ) × (z : Node) × (suc (suc j) ≡ suc (suc i)) × (slice_get nodes i ≡ Some z) × (l ≡ z.bit))
    by v y got true test = let same : l ≡ y.bit = grind (arith, nat_tests) in inr (j, y, refl, got, same)
    by false y got false test = inl (ap (child l false (suc (suc j))) got ∙ ap (λ b. if b then y.low.place else suc (suc j)) test)
    by true y got false test = inl (ap (child l true (suc (suc j))) got ∙ ap (λ b. if b then y.high.place else suc (suc j)) test)

-- the bead of a node that is reached is a bead of the table
reaches_bead : (n : ℕ) (nodes : List Node) → IsCanonical n nodes → (to p : ℕ) → Reaches nodes to p → (k : ℕ) (x : Node) → to ≡ suc (suc k) → slice_get nodes k ≡ Some x → p < length nodes + 2 → (m level : ℕ) → level + m ≡ n → level ≤ level_of n nodes p → is_bead (beads_of m (table_from nodes m level p)) (bead_of n nodes k x) ≡ true
reaches_bead n nodes c to p here k x is got there m level e le =
    let at : level_of n nodes p ≡ x.bit = ap (level_of n nodes) is ∙ ap (bit_or n) got in
    let bit = c.bits k x got in
    let own = own_bead_of n nodes c k x got in
    lift_own n nodes p (bead_of n nodes k x) (omega arith)
    ((λ i. is_bead (beads_of (n - at i) (table_from nodes (n - at i) (at i) (is i))) (bead_of n nodes k x)) ∙ own)
    m level e le
reaches_bead n nodes c to p (along l v q h) k x is got there m level e le = by (branch_cases nodes l v p there) (reaches_bead n nodes c to (branch nodes l v p) h k x is got (let before = branch_before n nodes c l v p there in omega arith))
  where
    by : (branch nodes l v p ≡ p) ⊎ ((j : ℕ) × (y : Node) × (p ≡ suc (suc j)) × (slice_get nodes j ≡ Some y) × (l ≡ y.bit))
        → ((m level : ℕ) → level + m ≡ n → level ≤ level_of n nodes (branch nodes l v p) → is_bead (beads_of m (table_from nodes m level (branch nodes l v p))) (bead_of n nodes k x) ≡ true)
        → is_bead (beads_of m (table_from nodes m level p)) (bead_of n nodes k x) ≡ true
    by (inl same) rec =
        ap (λ (r : ℕ). is_bead (beads_of m (table_from nodes m level r)) (bead_of n nodes k x)) (sym same)
        ∙ rec m level e (subst (λ (r : ℕ). level ≤ level_of n nodes r) (sym same) le)
    by (inr w) rec =
        let j = w.0 in
        let y = w.1 in
        let at : level_of n nodes p ≡ y.bit = ap (level_of n nodes) w.2 ∙ ap (bit_or n) w.3 in
        let bit = c.bits j y w.3 in
        let next = next_level n nodes l v p c (let f = w.4 in omega arith) (let f = w.4 in omega arith) in
        let below = rec (n - suc y.bit) (y.bit + 1) (omega arith) (let f = w.4 in omega arith) in
        let moved : is_bead (beads_of (n - suc y.bit) (table_from nodes (n - suc y.bit) (y.bit + 1) (branch nodes y.bit v (suc (suc j))))) (bead_of n nodes k x) ≡ true =
        (λ i. is_bead (beads_of (n - suc y.bit) (table_from nodes (n - suc y.bit) (y.bit + 1) (branch nodes (sym w.4 i) v (sym w.2 i)))) (bead_of n nodes k x)) ∙ below in
        let own = child_bead n nodes j y v (bead_of n nodes k x) w.3 bit moved in
        lift_own n nodes p (bead_of n nodes k x) (omega arith)
        ((λ i. is_bead (beads_of (n - at i) (table_from nodes (n - at i) (at i) (w.2 i))) (bead_of n nodes k x)) ∙ own)
        m level e le

-- a list has a member
abbrev Among : {X : Type 0} → List X → X → Type 0
Among {X = X} xs x = (k : ℕ) × (slice_get xs k ≡ Some x)

among_next : {X : Type 0} (y : X) (xs : List X) (x : X) → Among xs x → Among (y ∷ xs) x
among_next y xs x m = (suc m.0, m.1)

among_left : {X : Type 0} (xs ys : List X) (x : X) → Among xs x → Among (xs ++ ys) x
among_left [] ys x m = let e = m.1 in absurd (grind arith)
among_left (y ∷ xs) ys x (zero, e) = (zero, e)
among_left (y ∷ xs) ys x (suc k, e) = among_next y (xs ++ ys) x (among_left xs ys x (k, e))

among_right : {X : Type 0} (xs ys : List X) (x : X) → Among ys x → Among (xs ++ ys) x
among_right [] ys x m = m
among_right (y ∷ xs) ys x m = among_next y (xs ++ ys) x (among_right xs ys x m)

among_map : {X Y : Type 0} (f : X → Y) (xs : List X) (x : X) → Among xs x → Among (map f xs) (f x)
among_map f [] x m = let e = m.1 in absurd (grind arith)
among_map f (y ∷ xs) x (zero, e) = (zero, let same : y ≡ x = cc in ap (λ z. Some (f z)) same)
among_map f (y ∷ xs) x (suc k, e) = among_next (f y) (map f xs) (f x) (among_map f xs x (k, e))

-- all ways to take one of each of two lists
abbrev choices : {X Y Z : Type 0} → (X → Y → Z) → List X → List Y → List Z
choices f [] ys = []
choices f (x ∷ xs) ys = map (f x) ys ++ choices f xs ys

length-choices : {X Y Z : Type 0} (f : X → Y → Z) (xs : List X) (ys : List Y) → length (choices f xs ys) ≡ length xs * length ys
length-choices f [] ys = omega arith
length-choices f (x ∷ xs) ys =
    length-append (map (f x) ys) (choices f xs ys)
    ∙ (λ i. length-map ys (f x) i + length-choices f xs ys i)
    ∙ grind (arith, common_steps)

among_choices : {X Y Z : Type 0} (f : X → Y → Z) (xs : List X) (ys : List Y) (x : X) (y : Y) → Among xs x → Among ys y → Among (choices f xs ys) (f x y)
among_choices f [] ys x y m l = let e = m.1 in absurd (grind arith)
among_choices f (z ∷ xs) ys x y (zero, e) l =
    among_left (map (f z) ys) (choices f xs ys) (f x y) (subst (λ w. Among (map (f z) ys) (f w y)) (some_only z x e) (among_map (f z) ys y l))
among_choices f (z ∷ xs) ys x y (suc k, e) l = among_right (map (f z) ys) (choices f xs ys) (f x y) (among_choices f xs ys x y (k, e) l)

-- the nodes that stand from a number on whose bead is one of a table, with their numbers
abbrev those : ℕ → List Node → List Bool → ℕ → List Node → List (ℕ × Node)
those n nodes t k [] = []
those n nodes t k (x ∷ xs) = if is_bead (beads_of n t) (bead_of n nodes k x) then (k, x) ∷ those n nodes t (suc k) xs else those n nodes t (suc k) xs

-- their numbers rise
abbrev Rising : ℕ → List (ℕ × Node) → Type 0
Rising k [] = ⊤
Rising k (p ∷ ps) = (k ≤ p.0) × Rising (suc p.0) ps

rising_less : (j k : ℕ) (ps : List (ℕ × Node)) → j ≤ k → Rising k ps → Rising j ps
rising_less j k [] le r = tt
rising_less j k (p ∷ ps) le r = (let h = r.0 in omega arith, r.1)

rising_those : (n : ℕ) (nodes : List Node) (t : List Bool) (k : ℕ) (xs : List Node) → Rising k (those n nodes t k xs)
rising_those n nodes t k [] = tt
rising_those n nodes t k (x ∷ xs) = by (is_bead (beads_of n t) (bead_of n nodes k x)) (rising_those n nodes t (suc k) xs)
  where
    by : (b : Bool) → Rising (suc k) (those n nodes t (suc k) xs) → Rising k (if b then (k, x) ∷ those n nodes t (suc k) xs else those n nodes t (suc k) xs)
    by true r = (omega arith, r)
    by false r = rising_less k (suc k) (those n nodes t (suc k) xs) (omega arith) r

-- each is a node, with a bead of the table
abbrev AreThose : ℕ → List Node → List Bool → List (ℕ × Node) → Type 0
AreThose n nodes t [] = ⊤
AreThose n nodes t (p ∷ ps) = ((slice_get nodes p.0 ≡ Some p.1) × (is_bead (beads_of n t) (bead_of n nodes p.0 p.1) ≡ true)) × AreThose n nodes t ps

are_those : (n : ℕ) (nodes : List Node) (t : List Bool) (k : ℕ) (xs : List Node) → ((j : ℕ) (x : Node) → slice_get xs j ≡ Some x → slice_get nodes (k + j) ≡ Some x) → AreThose n nodes t (those n nodes t k xs)
are_those n nodes t k [] h = tt
are_those n nodes t k (x ∷ xs) h =
    by (is_bead (beads_of n t) (bead_of n nodes k x)) refl
    (are_those n nodes t (suc k) xs (λ j y g. let e : k + suc j ≡ suc k + j = omega arith in ap (slice_get nodes) (sym e) ∙ h (suc j) y g))
  where
    by : (b : Bool) → is_bead (beads_of n t) (bead_of n nodes k x) ≡ b → AreThose n nodes t (those n nodes t (suc k) xs) → AreThose n nodes t (if b then (k, x) ∷ those n nodes t (suc k) xs else those n nodes t (suc k) xs)
    by true e r = let z : k + 0 ≡ k = omega arith in ((ap (slice_get nodes) (sym z) ∙ h 0 x refl, e), r)
    by false e r = r

among_those : (n : ℕ) (nodes : List Node) (t : List Bool) (k : ℕ) (xs : List Node) (j : ℕ) (x : Node) → slice_get xs j ≡ Some x → is_bead (beads_of n t) (bead_of n nodes (k + j) x) ≡ true → Among (those n nodes t k xs) (k + j, x)
among_those n nodes t k [] j x g b = absurd (grind arith)
among_those n nodes t k (y ∷ xs) zero x g b =
    let same : y ≡ x = some_only y x g in
    let z : k + 0 ≡ k = omega arith in
    let is : is_bead (beads_of n t) (bead_of n nodes k y) ≡ true = (λ i. is_bead (beads_of n t) (bead_of n nodes (sym z i) (same i))) ∙ b in
    subst (λ ps. Among ps (k + 0, x)) (ap (λ c. if c then (k, y) ∷ those n nodes t (suc k) xs else those n nodes t (suc k) xs) (sym is)) (0, λ i. Some (sym z i, same i))
among_those n nodes t k (y ∷ xs) (suc j) x g b =
    let e : suc k + j ≡ k + suc j = omega arith in
    let rest = among_those n nodes t (suc k) xs j x g ((λ i. is_bead (beads_of n t) (bead_of n nodes (e i) x)) ∙ b) in
    by (is_bead (beads_of n t) (bead_of n nodes k y)) (subst (λ (i : ℕ). Among (those n nodes t (suc k) xs) (i, x)) e rest)
  where
    by : (b : Bool) → Among (those n nodes t (suc k) xs) (k + suc j, x) → Among (if b then (k, y) ∷ those n nodes t (suc k) xs else those n nodes t (suc k) xs) (k + suc j, x)
    by true m = among_next (k, y) (those n nodes t (suc k) xs) (k + suc j, x) m
    by false m = m

-- their beads
abbrev beads_at : ℕ → List Node → List (ℕ × Node) → List (List Bool)
beads_at n nodes ps = map (λ p. bead_of n nodes p.0 p.1) ps

-- a bead of theirs is that of one of them
found_at : (n : ℕ) (nodes : List Node) (t u : List Bool) (k : ℕ) (ps : List (ℕ × Node)) → Rising k ps → AreThose n nodes t ps → is_bead (beads_at n nodes ps) u ≡ true → (p : ℕ × Node) × (k ≤ p.0) × (slice_get nodes p.0 ≡ Some p.1) × (is_bead (beads_of n t) (bead_of n nodes p.0 p.1) ≡ true) × (u ≡ bead_of n nodes p.0 p.1)
found_at n nodes t u k [] r a h = absurd (grind arith)
found_at n nodes t u k (p ∷ ps) r a h =
    by (either (eq_by_cmp (slice_cmp bool_cmp) u (bead_of n nodes p.0 p.1)) (is_bead (beads_at n nodes ps) u) h) (found_at n nodes t u (suc p.0) ps r.1 a.1)
  where
    Found : ℕ → Type 0
    Found k = (p : ℕ × Node) × (k ≤ p.0) × (slice_get nodes p.0 ≡ Some p.1) × (is_bead (beads_of n t) (bead_of n nodes p.0 p.1) ≡ true) × (u ≡ bead_of n nodes p.0 p.1)

    by : (eq_by_cmp (slice_cmp bool_cmp) u (bead_of n nodes p.0 p.1) ≡ true) ⊎ (is_bead (beads_at n nodes ps) u ≡ true) → (is_bead (beads_at n nodes ps) u ≡ true → Found (suc p.0)) → Found k
    by (inl e) rec = (p, r.0, a.0.0, a.0.1, one_table u (bead_of n nodes p.0 p.1) e)
    by (inr e) rec = let q = rec e in let le = q.1 in let h = r.0 in (q.0, omega arith, q.2, q.3, q.4)

-- they are as many as their beads
count_at : (n : ℕ) (nodes : List Node) (t : List Bool) → IsCanonical n nodes → (k : ℕ) (ps : List (ℕ × Node)) → Rising k ps → AreThose n nodes t ps → distinct_count (beads_at n nodes ps) ≡ length ps
count_at n nodes t c k [] r a = refl
count_at n nodes t c k (p ∷ ps) r a =
    let rest = count_at n nodes t c (suc p.0) ps r.1 a.1 in
    ap (λ (b : Bool). cond b (distinct_count (beads_at n nodes ps)) (distinct_count (beads_at n nodes ps) + 1)) absent ∙ omega arith
  where
    not_true : (b : Bool) → (b ≡ true → ⊥) → b ≡ false
    not_true true f = absurd (f refl)
    not_true false f = refl

    absent : list_any (eq_by_cmp (slice_cmp bool_cmp) (bead_of n nodes p.0 p.1)) (beads_at n nodes ps) ≡ false
    absent = not_true _ (λ h.
        let q = found_at n nodes t (bead_of n nodes p.0 p.1) (suc p.0) ps r.1 a.1 h in
        let same = beads_differ n nodes c p.0 q.0.0 p.1 q.0.1 a.0.0 q.2 q.4 in
        let later = q.1 in
        omega arith)

-- so they are no more than the beads of the table
few_those : (n : ℕ) (nodes : List Node) (t : List Bool) → IsCanonical n nodes → length (those n nodes t 0 nodes) ≤ bead_count n (t ∷ [])
few_those n nodes t c =
    let count = len-from_list (beads_at n nodes all) ∙ count_at n nodes t c 0 all (rising_those n nodes t 0 nodes) each in
    let grows : set.len found ≤ set.len (set.union found (distinct_beads n (t ∷ []))) = len_grows space (t ∷ []) in
    let same = ap set.len union_is in
    omega arith
  where
    all : List (ℕ × Node)
    all = those n nodes t 0 nodes

    each : AreThose n nodes t all
    each = are_those n nodes t 0 nodes (λ j x g. let e : 0 + j ≡ j = omega arith in ap (slice_get nodes) e ∙ g)

    found : Beads
    found = set.from_list (beads_at n nodes all)

    space : SpaceData
    space = record { width = n; limit = None; live = λ r. false; table = λ r. []; held = found; stands = λ m. false; live_at = λ m r. false; held_at = λ m. found }

    or_false : (b : Bool) → (b || false) ≡ b
    or_false true = refl
    or_false false = refl

    union_is : set.union found (distinct_beads n (t ∷ [])) ≡ distinct_beads n (t ∷ [])
    union_is = one_set _ _ (λ u.
        set.contains-union table_order found (distinct_beads n (t ∷ [])) u
        ∙ ap (λ b. b || set.contains (distinct_beads n (t ∷ [])) u) (set.contains-from_list table_order (beads_at n nodes all) u)
        ∙ same_from_both _ _ (λ h. by u (either _ _ h)) (λ h. or_right _ _ h))
      where
        or_right : (a b : Bool) → b ≡ true → (a || b) ≡ true
        or_right true b h = refl
        or_right false b h = h

        by : (u : List Bool) → (is_bead (beads_at n nodes all) u ≡ true) ⊎ (set.contains (distinct_beads n (t ∷ [])) u ≡ true) → set.contains (distinct_beads n (t ∷ [])) u ≡ true
        by u (inl h) =
            let q = found_at n nodes t u 0 all (rising_those n nodes t 0 nodes) each h in
            contains-distinct_beads n (t ∷ []) u ∙ or_false (is_bead (beads_of n t) u) ∙ ap (is_bead (beads_of n t)) q.4 ∙ q.3
        by u (inr h) = h

-- the places that are reached from one
abbrev reach : ℕ → List Node → ℕ → List ℕ
reach n nodes zero = 0 ∷ []
reach n nodes (suc zero) = 1 ∷ []
reach n nodes (suc (suc k)) = 0 ∷ 1 ∷ map (λ q. suc (suc q.0)) (those n nodes (table_from nodes n 0 (suc (suc k))) 0 nodes)

few_reached : (n : ℕ) (nodes : List Node) (p : ℕ) → IsCanonical n nodes → length (reach n nodes p) ≤ reach_of n nodes p
few_reached n nodes zero c = omega arith
few_reached n nodes (suc zero) c = omega arith
few_reached n nodes (suc (suc k)) c =
    let few = few_those n nodes (table_from nodes n 0 (suc (suc k))) c in
    let same = length-map (those n nodes (table_from nodes n 0 (suc (suc k))) 0 nodes) (λ q. suc (suc q.0)) in
    omega arith

-- only the constant itself is reached from a constant
reaches_constant : (nodes : List Node) (to p : ℕ) → p < 2 → Reaches nodes to p → to ≡ p
reaches_constant nodes to p lt here = refl
reaches_constant nodes to p lt (along level v q h) = let same = stays p lt in reaches_constant nodes to (branch nodes level v p) (omega arith) h ∙ same
  where
    stays : (r : ℕ) → r < 2 → branch nodes level v r ≡ r
    stays zero l = refl
    stays (suc zero) l = refl
    stays (suc (suc r)) l = absurd (omega arith)

reaches_there : (n : ℕ) (nodes : List Node) (to p : ℕ) → IsCanonical n nodes → p < length nodes + 2 → Reaches nodes to p → to < length nodes + 2
reaches_there n nodes to p c there here = there
reaches_there n nodes to p c there (along level v q h) = reaches_there n nodes to (branch nodes level v p) c (let before = branch_before n nodes c level v p there in omega arith) h

among_reach : (n : ℕ) (nodes : List Node) → IsCanonical n nodes → (to p : ℕ) → p < length nodes + 2 → Reaches nodes to p → Among (reach n nodes p) to
among_reach n nodes c to zero there h = (0, ap (λ (r : ℕ). Some r) (sym (reaches_constant nodes to 0 (omega arith) h)))
among_reach n nodes c to (suc zero) there h = (0, ap (λ (r : ℕ). Some r) (sym (reaches_constant nodes to 1 (omega arith) h)))
among_reach n nodes c to (suc (suc p)) there h = by to refl
  where
    t : List Bool
    t = table_from nodes n 0 (suc (suc p))

    by : (r : ℕ) → to ≡ r → Among (reach n nodes (suc (suc p))) to
    by zero e = (0, ap (λ (r : ℕ). Some r) (sym e))
    by (suc zero) e = (1, ap (λ (r : ℕ). Some r) (sym e))
    by (suc (suc k)) e =
        let within = reaches_there n nodes to (suc (suc p)) c there h in
        let got = get_there nodes k (omega arith) in
        let z : 0 + k ≡ k = omega arith in
        let bead = reaches_bead n nodes c to (suc (suc p)) h k got.0 e got.1 there n 0 (omega arith) (omega arith) in
        let among = among_those n nodes t 0 nodes k got.0 got.1 ((λ i. is_bead (beads_of n t) (bead_of n nodes (z i) got.0)) ∙ bead) in
        let mapped = among_map (λ (q : ℕ × Node). suc (suc q.0)) (those n nodes t 0 nodes) (0 + k, got.0) among in
        subst (λ (r : ℕ). Among (reach n nodes (suc (suc p))) r) (sym e)
        (among_next 0 (1 ∷ map (λ (q : ℕ × Node). suc (suc q.0)) (those n nodes t 0 nodes)) (suc (suc k)) (among_next 1 (map (λ (q : ℕ × Node). suc (suc q.0)) (those n nodes t 0 nodes)) (suc (suc k)) (subst (λ (i : ℕ). Among (map (λ (q : ℕ × Node). suc (suc q.0)) (those n nodes t 0 nodes)) (suc (suc i))) z mapped)))

abbrev pair : ℕ → ℕ → ℕ × ℕ
pair x y = (x, y)

abbrev to_key : ℕ × ℕ → ℕ × ℕ → Key
to_key x y = record { a = record { place = x.0 }; b = record { place = x.1 }; c = record { place = y.0 }; d = record { place = y.1 } }

-- the keys that are reached from one
abbrev reach_key : ℕ → List Node → Key → List Key
reach_key n nodes from =
    choices to_key
    (choices pair (reach n nodes from.a.place) (reach n nodes from.b.place))
    (choices pair (reach n nodes from.c.place) (reach n nodes from.d.place))

pub is_key_laws : IsEquivalence is_key
is_key_laws =
    and_equiv (on_equiv (λ (k : Key). k.a.place) nat_eq_equiv)
    (and_equiv (on_equiv (λ (k : Key). k.b.place) nat_eq_equiv)
    (and_equiv (on_equiv (λ (k : Key). k.c.place) nat_eq_equiv) (on_equiv (λ (k : Key). k.d.place) nat_eq_equiv)))

pub among_member : (keys : List Key) (q : Key) → list_any (is_key q) keys ≡ true → Among keys q
among_member [] q h = absurd (grind arith)
among_member (k ∷ keys) q h = by (either (is_key q k) (list_any (is_key q) keys) h) (among_member keys q)
  where
    by : (is_key q k ≡ true) ⊎ (list_any (is_key q) keys ≡ true) → (list_any (is_key q) keys ≡ true → Among keys q) → Among (k ∷ keys) q
    by (inl e) rec = (0, ap (λ (x : Key). Some x) (sym (is_key_only q k e)))
    by (inr e) rec = among_next k keys q (rec e)

member_among : (keys : List Key) (q : Key) → Among keys q → list_any (is_key q) keys ≡ true
member_among [] q m = let e = m.1 in absurd (grind arith)
member_among (k ∷ keys) q (zero, e) = ap (λ (b : Bool). b || list_any (is_key q) keys) (ap (is_key q) (some_only k q e) ∙ is_key_laws.refl q)
member_among (k ∷ keys) q (suc i, e) = or_right (is_key q k) _ (member_among keys q (i, e))
  where
    or_right : (a b : Bool) → b ≡ true → (a || b) ≡ true
    or_right true b h = refl
    or_right false b h = h

product_of_four : (a b c d : ℕ) → (a * b) * (c * d) ≡ product (a ∷ b ∷ c ∷ d ∷ [])
product_of_four a b c d = mul_assoc a b (c * d) ∙ ap (λ x. a * (b * (c * x))) (sym (mul-one d))

-- keys that differ and are reached from one are no more than the product
pub few_keys : (n : ℕ) (nodes : List Node) (key : Key) (keys : List Key) → IsCanonical n nodes → There nodes (places key) → IsDistinct is_key keys → AddsKeys nodes [] keys key → length keys ≤ product (map (reach_of n nodes) (places key))
few_keys n nodes key keys c there distinct adds =
    let few = length-le_from_is_member is_key_laws keys (reach_key n nodes key) distinct (λ q h. member_among (reach_key n nodes key) q (reached q (among_member keys q h))) in
    let a = reach n nodes key.a.place in
    let b = reach n nodes key.b.place in
    let d = reach n nodes key.c.place in
    let e = reach n nodes key.d.place in
    let ab : length (choices pair a b) ≡ length a * length b = length-choices pair a b in
    let de : length (choices pair d e) ≡ length d * length e = length-choices pair d e in
    let all : length (reach_key n nodes key) ≡ (length a * length b) * (length d * length e) = length-choices to_key (choices pair a b) (choices pair d e) ∙ (λ i. ab i * de i) in
    let most = mul-le (length a * length b) (length d * length e) (reach_of n nodes key.a.place * reach_of n nodes key.b.place) (reach_of n nodes key.c.place * reach_of n nodes key.d.place)
    (mul-le (length a) (length b) _ _ (few_reached n nodes key.a.place c) (few_reached n nodes key.b.place c))
    (mul-le (length d) (length e) _ _ (few_reached n nodes key.c.place c) (few_reached n nodes key.d.place c)) in
    let turned = product_of_four (reach_of n nodes key.a.place) (reach_of n nodes key.b.place) (reach_of n nodes key.c.place) (reach_of n nodes key.d.place) in
    omega arith
  where
    key_by : {q : Key} → ((j : ℕ) × (slice_get [] j ≡ Some q)) ⊎ ReachesKey nodes key q → ReachesKey nodes key q
    key_by (inl h) = let e = h.1 in absurd (grind arith)
    key_by (inr r) = r

    reached : (q : Key) → Among keys q → Among (reach_key n nodes key) q
    reached q m =
        let r : ReachesKey nodes key q = key_by (adds.added m.0 q m.1) in
        among_choices to_key _ _ (q.a.place, q.b.place) (q.c.place, q.d.place)
        (among_choices pair _ _ q.a.place q.b.place (among_reach n nodes c q.a.place key.a.place there.0 r.a) (among_reach n nodes c q.b.place key.b.place there.1.0 r.b))
        (among_choices pair _ _ q.c.place q.d.place (among_reach n nodes c q.c.place key.c.place there.1.1.0 r.c) (among_reach n nodes c q.d.place key.d.place there.1.1.1.0 r.d))

-- the product stays where nodes come
pub product_grown : (n : ℕ) (a b : List Node) → IsCanonical n a → Grown a b → (ps : List ℕ) → There a ps → product (map (reach_of n b) ps) ≡ product (map (reach_of n a) ps)
product_grown n a b c g [] there = refl
product_grown n a b c g (p ∷ ps) there = (λ i. one p there.0 i * product_grown n a b c g ps there.1 i)
  where
    one : (p : ℕ) → p < length a + 2 → reach_of n b p ≡ reach_of n a p
    one zero lt = refl
    one (suc p) lt = ap (λ (t : List Bool). bead_count n (t ∷ []) + 2) (table_grown n a b c g n 0 (suc p) lt)

-- and is no more than the bound where the operands were filled up
pub product_filled : (n : ℕ) (nodes : List Node) (ps qs : List ℕ) → IsFilled ps qs → product (map (reach_of n nodes) qs) ≤ product (map (λ p. bead_count n (table_from nodes n 0 p ∷ []) + 2) ps)
product_filled n nodes ps [] f = some ps
  where
    some : (ps : List ℕ) → 1 ≤ product (map (λ p. bead_count n (table_from nodes n 0 p ∷ []) + 2) ps)
    some [] = omega arith
    some (p ∷ ps) = let h = mul-le 1 1 (bead_count n (table_from nodes n 0 p ∷ []) + 2) _ (omega arith) (some ps) in omega arith
product_filled n nodes [] (q ∷ qs) f =
    let zero_here : q ≡ 0 = f.same 0 in
    let one : reach_of n nodes q ≡ 1 = ap (reach_of n nodes) zero_here in
    let rest = product_filled n nodes [] qs (record { same = λ k. f.same (suc k) }) in
    let whole : reach_of n nodes q * product (map (reach_of n nodes) qs) ≡ 1 * product (map (reach_of n nodes) qs) = ap (λ x. x * product (map (reach_of n nodes) qs)) one in
    omega arith
product_filled n nodes (p ∷ ps) (q ∷ qs) f =
    mul-le (reach_of n nodes q) (product (map (reach_of n nodes) qs)) (bead_count n (table_from nodes n 0 p ∷ []) + 2) _ (fewer q p (f.same 0)) (product_filled n nodes ps qs (record { same = λ k. f.same (suc k) }))
  where
    fewer : (q p : ℕ) → q ≡ p → reach_of n nodes q ≤ bead_count n (table_from nodes n 0 p ∷ []) + 2
    fewer zero p e = omega arith
    fewer (suc q) p e = let same = ap (λ (r : ℕ). bead_count n (table_from nodes n 0 r ∷ []) + 2) e in omega arith
