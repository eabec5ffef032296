-- Places with one table are one place.
use Rattle.ncl_diagram.proofs.Terms.{Bool, IsCanonical, List, Node, None, Option, Some, [], ap, arith, bit_or, branch, child, false, if◌then◌else◌, inl, inr, length, length-append, level_of, nat_eq, nat_tests, pow_suc, refl, slice_get, slice_get_cases, subst, suc, sym, table_from, true, zero, ℕ, ◌++◌, ◌+◌, ◌<◌, ◌^◌, ◌∙◌, ◌∷◌, ◌≡◌, ◌≢◌, ◌≤◌, ◌⊎◌}
use Rattle.std.proofs.Math.ListN.{get_or}

pub length-table_from : (nodes : List Node) (m level place : ℕ) → length (table_from nodes m level place) ≡ 2 ^ m
length-table_from nodes zero level place = refl
length-table_from nodes (suc m) level place =
    omega (arith, pow_suc m, length-append (table_from nodes m (level + 1) (branch nodes level false place)) (table_from nodes m (level + 1) (branch nodes level true place)), length-table_from nodes m (level + 1) (branch nodes level false place), length-table_from nodes m (level + 1) (branch nodes level true place))

pub same_front : (xs ys us vs : List Bool) → length xs ≡ length us → xs ++ ys ≡ us ++ vs → xs ≡ us
same_front [] ys [] vs l e = refl
same_front [] ys (u ∷ us) vs l e = absurd (omega arith)
same_front (x ∷ xs) ys [] vs l e = absurd (omega arith)
same_front (x ∷ xs) ys (u ∷ us) vs l e =
    let h : x ≡ u = cc in
    let t : xs ++ ys ≡ us ++ vs = cc in
    let r : xs ≡ us = same_front xs ys us vs (omega arith) t in
    cc

pub same_back : (xs ys us vs : List Bool) → length xs ≡ length us → xs ++ ys ≡ us ++ vs → ys ≡ vs
same_back [] ys [] vs l e = e
same_back [] ys (u ∷ us) vs l e = absurd (omega arith)
same_back (x ∷ xs) ys [] vs l e = absurd (omega arith)
same_back (x ∷ xs) ys (u ∷ us) vs l e =
    let t : xs ++ ys ≡ us ++ vs = cc in
    same_back xs ys us vs (omega arith) t

pub get_within : (nodes : List Node) (k : ℕ) (x : Node) → slice_get nodes k ≡ Some x → k < length nodes
get_within [] k x e = absurd (grind arith)
get_within (y ∷ nodes) zero x e = omega arith
get_within (y ∷ nodes) (suc k) x e = omega (arith, get_within nodes k x e)

-- a place either reads the level's bit or a later one
pub record Reads (n : ℕ) (nodes : List Node) (level place : ℕ) : Type 0 where
  pub node : Node
  pub k : ℕ
  pub at : place ≡ suc (suc k)
  pub is : slice_get nodes k ≡ Some node
  pub bit : node.bit ≡ level
  pub low : branch nodes level false place ≡ node.low.place
  pub high : branch nodes level true place ≡ node.high.place

pub record Passes (n : ℕ) (nodes : List Node) (level place : ℕ) : Type 0 where
  pub later : level < level_of n nodes place
  pub low : branch nodes level false place ≡ place
  pub high : branch nodes level true place ≡ place

look_at : (n : ℕ) (nodes : List Node) (level k : ℕ) (o : Option Node) → slice_get nodes k ≡ o → level < n → level ≤ bit_or n o → Reads n nodes level (suc (suc k)) ⊎ Passes n nodes level (suc (suc k))
look_at n nodes level k None e h l =
    inr (record { later = subst (λ (o : Option Node). level < bit_or n o) (sym e) h; low = ap (child level false (suc (suc k))) e; high = ap (child level true (suc (suc k))) e })
look_at n nodes level k (Some x) e h l =
    elim (nat_eq x.bit level) as (λ b. nat_eq x.bit level ≡ b → Reads n nodes level (suc (suc k)) ⊎ Passes n nodes level (suc (suc k))) [
      | true ↦ λ t. inl (record { node = x; k = k; at = refl; is = e; bit = grind (arith, nat_tests); low = ap (child level false (suc (suc k))) e ∙ ap (λ b. if b then x.low.place else suc (suc k)) t; high = ap (child level true (suc (suc k))) e ∙ ap (λ b. if b then x.high.place else suc (suc k)) t })
      | false ↦ λ t. let apart : x.bit ≢ level = grind (arith, nat_tests) in let more : level < x.bit = omega arith in inr (record { later = subst (λ (o : Option Node). level < bit_or n o) (sym e) more; low = ap (child level false (suc (suc k))) e ∙ ap (λ b. if b then x.low.place else suc (suc k)) t; high = ap (child level true (suc (suc k))) e ∙ ap (λ b. if b then x.high.place else suc (suc k)) t })
    ] refl

pub look : (n : ℕ) (nodes : List Node) (level place : ℕ) → level < n → level ≤ level_of n nodes place → Reads n nodes level place ⊎ Passes n nodes level place
look n nodes level zero h l = inr (record { later = h; low = refl; high = refl })
look n nodes level (suc zero) h l = inr (record { later = h; low = refl; high = refl })
look n nodes level (suc (suc k)) h l = look_at n nodes level k (slice_get nodes k) refl h l

pub next_low : (n : ℕ) (nodes : List Node) (level place : ℕ) → IsCanonical n nodes → Reads n nodes level place ⊎ Passes n nodes level place → level + 1 ≤ level_of n nodes (branch nodes level false place)
next_low n nodes level place c (inl r) = subst (λ (p : ℕ). level + 1 ≤ level_of n nodes p) (sym r.low) (let h = c.low r.k r.node r.is in let b = r.bit in omega arith)
next_low n nodes level place c (inr p) = subst (λ (q : ℕ). level + 1 ≤ level_of n nodes q) (sym p.low) (let h = p.later in omega arith)

pub next_high : (n : ℕ) (nodes : List Node) (level place : ℕ) → IsCanonical n nodes → Reads n nodes level place ⊎ Passes n nodes level place → level + 1 ≤ level_of n nodes (branch nodes level true place)
next_high n nodes level place c (inl r) = subst (λ (p : ℕ). level + 1 ≤ level_of n nodes p) (sym r.high) (let h = c.high r.k r.node r.is in let b = r.bit in omega arith)
next_high n nodes level place c (inr p) = subst (λ (q : ℕ). level + 1 ≤ level_of n nodes q) (sym p.high) (let h = p.later in omega arith)

pub there_low : (n : ℕ) (nodes : List Node) (level place : ℕ) → IsCanonical n nodes → place < length nodes + 2 → Reads n nodes level place ⊎ Passes n nodes level place → branch nodes level false place < length nodes + 2
there_low n nodes level place c t (inl r) = let h = (c.before r.k r.node r.is).0 in let e = r.low in let a = r.at in let b = get_within nodes r.k r.node r.is in omega arith
there_low n nodes level place c t (inr p) = let e = p.low in omega arith

pub there_high : (n : ℕ) (nodes : List Node) (level place : ℕ) → IsCanonical n nodes → place < length nodes + 2 → Reads n nodes level place ⊎ Passes n nodes level place → branch nodes level true place < length nodes + 2
there_high n nodes level place c t (inl r) = let h = (c.before r.k r.node r.is).1 in let e = r.high in let a = r.at in let b = get_within nodes r.k r.node r.is in omega arith
there_high n nodes level place c t (inr p) = let e = p.high in omega arith

pub same_node : (a b : Node) → a.bit ≡ b.bit → a.low.place ≡ b.low.place → a.high.place ≡ b.high.place → a ≡ b
same_node a b e l h = λ i. record { bit = e i; low = record { place = l i }; high = record { place = h i } }

finish : (n : ℕ) (nodes : List Node) (level x y : ℕ) → IsCanonical n nodes → Reads n nodes level x ⊎ Passes n nodes level x → Reads n nodes level y ⊎ Passes n nodes level y → branch nodes level false x ≡ branch nodes level false y → branch nodes level true x ≡ branch nodes level true y → x ≡ y
finish n nodes level x y c (inl r) (inl s) f h =
    let low : r.node.low.place ≡ s.node.low.place = sym r.low ∙ f ∙ s.low in
    let high : r.node.high.place ≡ s.node.high.place = sym r.high ∙ h ∙ s.high in
    let bit : r.node.bit ≡ s.node.bit = r.bit ∙ sym s.bit in
    let node : r.node ≡ s.node = same_node r.node s.node bit low high in
    let k : r.k ≡ s.k = c.single r.k s.k s.node (r.is ∙ ap (λ (v : Node). Some v) node) s.is in
    let ex = r.at in
    let ey = s.at in
    omega arith
finish n nodes level x y c (inl r) (inr p) f h = absurd (c.reduced r.k r.node r.is (sym r.low ∙ f ∙ p.low ∙ sym p.high ∙ sym h ∙ r.high))
finish n nodes level x y c (inr p) (inl r) f h = absurd (c.reduced r.k r.node r.is (sym r.low ∙ sym f ∙ p.low ∙ sym p.high ∙ h ∙ r.high))
finish n nodes level x y c (inr p) (inr q) f h = sym p.low ∙ f ∙ q.low

pub bottom : (n : ℕ) (nodes : List Node) (place : ℕ) → IsCanonical n nodes → n ≤ level_of n nodes place → place < length nodes + 2 → place < 2
bottom n nodes zero c l t = omega arith
bottom n nodes (suc zero) c l t = omega arith
bottom n nodes (suc (suc k)) c l t =
    by_cases (slice_get_cases nodes k).1
  where
    by_cases : (((x : Node) × (k < length nodes) × (slice_get nodes k ≡ Some x) × (get_or nodes k x ≡ x)) ⊎ ((length nodes ≤ k) × (slice_get nodes k ≡ None))) → suc (suc k) < 2
    by_cases (inl q) = let b = c.bits k q.0 q.2 in let e : bit_or n (slice_get nodes k) ≡ q.0.bit = ap (bit_or n) q.2 in absurd (omega arith)
    by_cases (inr q) = let o = q.0 in absurd (omega arith)

same_end : (x y : ℕ) → x < 2 → y < 2 → nat_eq x 1 ≡ nat_eq y 1 → x ≡ y
same_end x y a b e = grind (arith, nat_tests)

-- places with one table are one place
pub one_place : (n : ℕ) (nodes : List Node) → IsCanonical n nodes → (m level x y : ℕ) → level + m ≡ n → level ≤ level_of n nodes x → level ≤ level_of n nodes y → x < length nodes + 2 → y < length nodes + 2 → table_from nodes m level x ≡ table_from nodes m level y → x ≡ y
one_place n nodes c zero level x y w lx ly tx ty e =
    same_end x y (bottom n nodes x c (omega arith) tx) (bottom n nodes y c (omega arith) ty) (ap (λ (t : List Bool). first t) e)
  where
    first : List Bool → Bool
    first [] = false
    first (b ∷ bs) = b
one_place n nodes c (suc m) level x y w lx ly tx ty e =
    let rx = look n nodes level x (omega arith) lx in
    let ry = look n nodes level y (omega arith) ly in
    let long : length (table_from nodes m (level + 1) (branch nodes level false x)) ≡ length (table_from nodes m (level + 1) (branch nodes level false y)) = length-table_from nodes m (level + 1) _ ∙ sym (length-table_from nodes m (level + 1) _) in
    let f = same_front _ (table_from nodes m (level + 1) (branch nodes level true x)) _ (table_from nodes m (level + 1) (branch nodes level true y)) long e in
    let h = same_back (table_from nodes m (level + 1) (branch nodes level false x)) _ (table_from nodes m (level + 1) (branch nodes level false y)) _ long e in
    let low = one_place n nodes c m (level + 1) _ _ (omega arith) (next_low n nodes level x c rx) (next_low n nodes level y c ry) (there_low n nodes level x c tx rx) (there_low n nodes level y c ty ry) f in
    let high = one_place n nodes c m (level + 1) _ _ (omega arith) (next_high n nodes level x c rx) (next_high n nodes level y c ry) (there_high n nodes level x c tx rx) (there_high n nodes level y c ty ry) h in
    finish n nodes level x y c rx ry low high
