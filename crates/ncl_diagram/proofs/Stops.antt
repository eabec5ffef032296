-- The answers that need no reading.
use Rattle.ncl_diagram.proofs.Terms.{Above, Bool, IsAnswer, IsBelow, IsStop, Kind, List, Node, There, [], and_parts, ap, arith, at, branch, false, if◌then◌else◌, inl, inr, length, level_of, list_all, list_any, map, nat_eq, nat_tests, not, only_one, refl, set_of, set_of-monotone, slice_index_or, subst, suc, sym, table_from, table_of, table_of-halves, table_of-same, true, words, zero, ℕ, ◌++◌, ◌+◌, ◌<◌, ◌||◌, ◌∙◌, ◌∷◌, ◌≡◌, ◌≤◌}
use Rattle.ncl_diagram.proofs.Words.{at_branch}

-- a table is that of its values
pub table_of_at : (nodes : List Node) (m level p : ℕ) → table_of (words m) (λ w. at (table_from nodes m level p) w) ≡ table_from nodes m level p
table_of_at nodes zero level p = refl
table_of_at nodes (suc m) level p =
    let l = branch nodes level false p in
    let h = branch nodes level true p in
    let a = table_of-same m (λ w. at (table_from nodes (suc m) level p) (false ∷ w)) (λ w. at (table_from nodes m (level + 1) l) w) (at_branch nodes m level false p) ∙ table_of_at nodes m (level + 1) l in
    let b = table_of-same m (λ w. at (table_from nodes (suc m) level p) (true ∷ w)) (λ w. at (table_from nodes m (level + 1) h) w) (at_branch nodes m level true p) ∙ table_of_at nodes m (level + 1) h in
    table_of-halves m (λ w. at (table_from nodes (suc m) level p) w) ∙ (λ i. a i ++ b i)

-- a place that is its own branches has one value everywhere
at_constant : (nodes : List Node) (p : ℕ) (value : Bool) → ((level : ℕ) (v : Bool) → branch nodes level v p ≡ p) → ((level : ℕ) → at (table_from nodes zero level p) [] ≡ value) → (m level : ℕ) (w : List Bool) → length w ≡ m → at (table_from nodes m level p) w ≡ value
at_constant nodes p value own here zero level [] e = here level
at_constant nodes p value own here zero level (v ∷ w) e = absurd (omega arith)
at_constant nodes p value own here (suc m) level [] e = absurd (omega arith)
at_constant nodes p value own here (suc m) level (v ∷ w) e = at_branch nodes m level v p w (omega arith) ∙ ap (λ (q : ℕ). at (table_from nodes m (level + 1) q) w) (own level v) ∙ at_constant nodes p value own here m (level + 1) w (omega arith)

pub at_zero : (nodes : List Node) (m level : ℕ) (w : List Bool) → length w ≡ m → at (table_from nodes m level 0) w ≡ false
at_zero nodes = at_constant nodes 0 false (λ level v. refl) (λ level. refl)

pub at_one : (nodes : List Node) (m level : ℕ) (w : List Bool) → length w ≡ m → at (table_from nodes m level 1) w ≡ true
at_one nodes = at_constant nodes 1 true (λ level v. refl) (λ level. refl)

-- values that rise together
below : (f g : ℕ → Bool) (ps : List ℕ) → ((p : ℕ) → f p ≡ true → g p ≡ true) → IsBelow (map f ps) (map g ps)
below f g ps h = record { same_length = same ps; rises = rises ps }
  where
    same : (ps : List ℕ) → length (map f ps) ≡ length (map g ps)
    same [] = refl
    same (p ∷ ps) = ap suc (same ps)

    rises : (ps : List ℕ) (k : ℕ) → slice_index_or (map f ps) k false ≡ true → slice_index_or (map g ps) k false ≡ true
    rises [] k e = e
    rises (p ∷ ps) zero e = h p e
    rises (p ∷ ps) (suc k) e = rises ps k e

not_true : (b : Bool) → (b ≡ true → ⊥) → b ≡ false
not_true true h = absurd (h refl)
not_true false h = refl

apart : (b : Bool) → b ≡ true → b ≡ false → ⊥
apart true e f = grind arith
apart false e f = grind arith

-- the value of a place at a word
abbrev value : List Node → ℕ → ℕ → List Bool → ℕ → Bool
value nodes m level w p = at (table_from nodes m level p) w

rows : (nodes : List Node) (m level : ℕ) (w : List Bool) (ps : List ℕ) → map (λ t. at t w) (map (table_from nodes m level) ps) ≡ map (value nodes m level w) ps
rows nodes m level w [] = refl
rows nodes m level w (p ∷ ps) = ap (λ l. at (table_from nodes m level p) w ∷ l) (rows nodes m level w ps)

not_zero : (nodes : List Node) (m level : ℕ) (w : List Bool) → length w ≡ m → (p : ℕ) → value nodes m level w p ≡ true → not (nat_eq p 0) ≡ true
not_zero nodes m level w e zero t = absurd (apart _ t (at_zero nodes m level w e))
not_zero nodes m level w e (suc p) t = grind (arith, nat_tests)

is_one : (nodes : List Node) (m level : ℕ) (w : List Bool) → length w ≡ m → (p : ℕ) → nat_eq p 1 ≡ true → value nodes m level w p ≡ true
is_one nodes m level w e p t = let s : p ≡ 1 = grind (arith, nat_tests) in ap (value nodes m level w) s ∙ at_one nodes m level w e

one_value : (nodes : List Node) (m level r : ℕ) (w : List Bool) → length w ≡ m → (v : Bool) → value nodes m level w r ≡ v → (p : ℕ) → only_one r p ≡ true → value nodes m level w p ≡ (if v then not (nat_eq p 0) else nat_eq p 1)
one_value nodes m level r w e true er zero h = at_zero nodes m level w e
one_value nodes m level r w e false er zero h = at_zero nodes m level w e
one_value nodes m level r w e true er (suc zero) h = at_one nodes m level w e
one_value nodes m level r w e false er (suc zero) h = at_one nodes m level w e
one_value nodes m level r w e true er (suc (suc k)) h = let s : suc (suc k) ≡ r = grind (arith, nat_tests) in let z : not (nat_eq (suc (suc k)) 0) ≡ true = grind (arith, nat_tests) in ap (value nodes m level w) s ∙ er ∙ sym z
one_value nodes m level r w e false er (suc (suc k)) h = let s : suc (suc k) ≡ r = grind (arith, nat_tests) in let z : nat_eq (suc (suc k)) 1 ≡ false = grind (arith, nat_tests) in ap (value nodes m level w) s ∙ er ∙ sym z

one_values : (nodes : List Node) (m level r : ℕ) (w : List Bool) → length w ≡ m → (v : Bool) → value nodes m level w r ≡ v → (ps : List ℕ) → list_all (only_one r) ps ≡ true → map (value nodes m level w) ps ≡ map (λ p. if v then not (nat_eq p 0) else nat_eq p 1) ps
one_values nodes m level r w e v er [] h = refl
one_values nodes m level r w e v er (p ∷ ps) h =
    let q = and_parts (only_one r p) (list_all (only_one r) ps) h in
    let a = one_value nodes m level r w e v er p q.0 in
    let b = one_values nodes m level r w e v er ps q.1 in
    λ i. a i ∷ b i

-- at each word
stop_value : (kind : Kind) (nodes : List Node) (ps : List ℕ) (r m level : ℕ) (w : List Bool) → length w ≡ m → IsStop kind ps r → value nodes m level w r ≡ set_of kind (map (value nodes m level w) ps)
stop_value kind nodes ps r m level w e (inl q) =
    let low = not_true (set_of kind (map (value nodes m level w) ps)) (λ h. apart _ (set_of-monotone kind _ _ (below (value nodes m level w) (λ p. not (nat_eq p 0)) ps (not_zero nodes m level w e)) h) q.1) in
    ap (value nodes m level w) q.0 ∙ at_zero nodes m level w e ∙ sym low
stop_value kind nodes ps r m level w e (inr (inl q)) =
    ap (value nodes m level w) q.0 ∙ at_one nodes m level w e ∙ sym (set_of-monotone kind _ _ (below (λ p. nat_eq p 1) (value nodes m level w) ps (is_one nodes m level w e)) q.1)
stop_value kind nodes ps r m level w e (inr (inr q)) = by (value nodes m level w r) refl
  where
    by : (v : Bool) → value nodes m level w r ≡ v → value nodes m level w r ≡ set_of kind (map (value nodes m level w) ps)
    by true er = er ∙ sym (ap (set_of kind) (one_values nodes m level r w e true er ps q.2) ∙ q.0)
    by false er = er ∙ sym (ap (set_of kind) (one_values nodes m level r w e false er ps q.2) ∙ q.1)

member_there : (nodes : List Node) (r : ℕ) (ps : List ℕ) → list_any (nat_eq r) ps ≡ true → There nodes ps → r < length nodes + 2
member_there nodes r [] h t = absurd (grind arith)
member_there nodes r (p ∷ ps) h t = by (λ g. member_there nodes r ps g t.1) (nat_eq r p) refl
  where
    by : (list_any (nat_eq r) ps ≡ true → r < length nodes + 2) → (b : Bool) → nat_eq r p ≡ b → r < length nodes + 2
    by rec true e = let s : r ≡ p = grind (arith, nat_tests) in let l = t.0 in omega arith
    by rec false e = rec (sym (ap (λ (b : Bool). b || list_any (nat_eq r) ps) e) ∙ h)

member_above : (n : ℕ) (nodes : List Node) (level r : ℕ) (ps : List ℕ) → list_any (nat_eq r) ps ≡ true → Above n nodes level ps → level ≤ level_of n nodes r
member_above n nodes level r [] h t = absurd (grind arith)
member_above n nodes level r (p ∷ ps) h t = by (λ g. member_above n nodes level r ps g t.1) (nat_eq r p) refl
  where
    by : (list_any (nat_eq r) ps ≡ true → level ≤ level_of n nodes r) → (b : Bool) → nat_eq r p ≡ b → level ≤ level_of n nodes r
    by rec true e = let s : r ≡ p = grind (arith, nat_tests) in subst (λ (q : ℕ). level ≤ level_of n nodes q) (sym s) t.0
    by rec false e = rec (sym (ap (λ (b : Bool). b || list_any (nat_eq r) ps) e) ∙ h)

pub stop_answer : (n : ℕ) (kind : Kind) (nodes : List Node) (ps : List ℕ) (r : ℕ) → There nodes ps → IsStop kind ps r → IsAnswer n kind nodes ps r
stop_answer n kind nodes ps r t s = record {
  there = there s;
  later = λ level le above. later s level le above;
  table = λ m level e above. sym (table_of_at nodes m level r) ∙ table_of-same m (value' m level) (λ w. set_of kind (map (λ u. at u w) (map (table_from nodes m level) ps)))
      (λ w len. stop_value kind nodes ps r m level w len s ∙ ap (set_of kind) (sym (rows nodes m level w ps)));
}
  where
    value' : ℕ → ℕ → List Bool → Bool
    value' m level w = at (table_from nodes m level r) w

    there : IsStop kind ps r → r < length nodes + 2
    there (inl q) = let e = q.0 in omega arith
    there (inr (inl q)) = let e = q.0 in omega arith
    there (inr (inr q)) = member_there nodes r ps q.3 t

    later : IsStop kind ps r → (level : ℕ) → level ≤ n → Above n nodes level ps → level ≤ level_of n nodes r
    later (inl q) level le above = subst (λ (k : ℕ). level ≤ level_of n nodes k) (sym q.0) le
    later (inr (inl q)) level le above = subst (λ (k : ℕ). level ≤ level_of n nodes k) (sym q.0) le
    later (inr (inr q)) level le above = member_above n nodes level r ps q.3 above
