-- Tables that depend on few bits have few beads.
use Rattle.ncl_space.proofs.Terms.{AllByRecursion, Bool, IsMarked, List, Marked, Member, Member-append_cases, Member-append_left, Member-append_right, Member-map, [], and_parts, ap, arith, bead_count, beads_of, both_ways, common_steps, false, flat_map, flat_map-cons, here, high_half, if◌then◌else◌, inl, inr, is_free, is_same, length, length-drop, length-take-le, list_any, low_half, map, member_cases, or_cases, or_left, or_right, refl, small_tables, subst, suc, sym, there, true, weight, weights, width_of, words, zero, ℕ, ◌++◌, ◌+◌, ◌<◌, ◌^◌, ◌∙◌, ◌∷◌, ◌≡◌, ◌≤◌, ◌⊎◌}
use Rattle.std.proofs.lemmas.List.{length-append}
use Rattle.ncl_space.proofs.BeadLaws.{bead_count-computes}
use Rattle.ncl_space.proofs.Nub.{distinct-le, same}

pow_suc : (n : ℕ) → 2 ^ suc n ≡ 2 ^ n + 2 ^ n
pow_suc n = grind (arith, common_steps)

pub is_same_only : (xs ys : List Bool) → is_same xs ys ≡ true → xs ≡ ys
is_same_only [] [] e = refl
is_same_only [] (y ∷ ys) e = absurd (grind arith)
is_same_only (x ∷ xs) [] e = absurd (grind arith)
is_same_only (true ∷ xs) (true ∷ ys) e = ap (λ t. true ∷ t) (is_same_only xs ys e)
is_same_only (true ∷ xs) (false ∷ ys) e = absurd (grind arith)
is_same_only (false ∷ xs) (true ∷ ys) e = absurd (grind arith)
is_same_only (false ∷ xs) (false ∷ ys) e = ap (λ t. false ∷ t) (is_same_only xs ys e)

one_table : (t u : List Bool) → same t u ≡ true → t ≡ u
one_table [] [] e = refl
one_table [] (y ∷ u) e = absurd cc
one_table (x ∷ t) [] e = absurd cc
one_table (true ∷ t) (true ∷ u) e = ap (λ l. true ∷ l) (one_table t u e)
one_table (false ∷ t) (false ∷ u) e = ap (λ l. false ∷ l) (one_table t u e)
one_table (true ∷ t) (false ∷ u) e = absurd cc
one_table (false ∷ t) (true ∷ u) e = absurd cc

table_ties : (t : List Bool) → same t t ≡ true
table_ties [] = refl
table_ties (true ∷ t) = table_ties t
table_ties (false ∷ t) = table_ties t

member_from_test : (xs : List (List Bool)) (q : List Bool) → list_any (same q) xs ≡ true → Member q xs
member_from_test [] q e = absurd (both_ways false refl e)
member_from_test (x ∷ xs) q e = elim (or_cases (same q x) (list_any (same q) xs) e) [
  | inl first ↦ subst (λ t. Member q (t ∷ xs)) (one_table q x first) here
  | inr rest ↦ there (member_from_test xs q rest)
]

test_from_member : (q : List Bool) {xs : List (List Bool)} → Member q xs → list_any (same q) xs ≡ true
test_from_member q (here {xs = xs}) = or_left (same q q) (list_any (same q) xs) (table_ties q)
test_from_member q (there {y = y} {xs = xs} m) = or_right (same q y) (list_any (same q) xs) (test_from_member q m)

-- the halves of a table are half as long
low-long : (n : ℕ) (t : List Bool) → length t ≡ 2 ^ suc n → length (low_half n t) ≡ 2 ^ n
low-long n t e = length-take-le (2 ^ n) t (omega (arith, pow_suc n))

high-long : (n : ℕ) (t : List Bool) → length t ≡ 2 ^ suc n → length (high_half n t) ≡ 2 ^ n
high-long n t e = let d = length-drop (2 ^ n) t in omega (arith, pow_suc n)

-- a bead of a table is the table, where its halves differ, or a bead of a half
own_case : (b t : List Bool) (s : Bool) → Member b (if s then [] else t ∷ []) → (t ≡ b) × (s ≡ false)
own_case b t true m = elim m [ ]
own_case b t false m = elim (member_cases b t [] m) [ inl own ↦ (own, refl) | inr n ↦ elim n [ ] ]

bead_cases : (n : ℕ) (b t : List Bool) → Member b (beads_of (suc n) t) → ((t ≡ b) × (is_same (low_half n t) (high_half n t) ≡ false)) ⊎ (Member b (beads_of n (low_half n t)) ⊎ Member b (beads_of n (high_half n t)))
bead_cases n b t m =
    let own : List (List Bool) = if is_same (low_half n t) (high_half n t) then [] else t ∷ [] in
    elim (Member-append_cases b (own ++ beads_of n (low_half n t)) (beads_of n (high_half n t)) m) [
      | inl front ↦ elim (Member-append_cases b own (beads_of n (low_half n t)) front) [
        | inl self ↦ inl (own_case b t (is_same (low_half n t) (high_half n t)) self)
        | inr low ↦ inr (inl low)
      ]
      | inr high ↦ inr (inr high)
    ]

-- a bead has a power of two as length, no more than its table
bead-long : (n : ℕ) (t b : List Bool) → length t ≡ 2 ^ n → Member b (beads_of n t) → (k : ℕ) × (k < n) × (length b ≡ 2 ^ suc k)
bead-long zero t b e m = elim m [ ]
bead-long (suc n) t b e m = elim (bead_cases n b t m) [
  | inl (own, differ) ↦ (n, omega arith, ap length (sym own) ∙ e)
  | inr halves ↦ elim halves [
    | inl low ↦ let (k, lt, long) = bead-long n (low_half n t) b (low-long n t e) low in (k, omega arith, long)
    | inr high ↦ let (k, lt, long) = bead-long n (high_half n t) b (high-long n t e) high in (k, omega arith, long)
  ]
]

-- each list of bits is among all of its length
pub Member-words : (w : List Bool) → Member w (words (length w))
Member-words [] = here
Member-words (true ∷ w) = Member-append_right (map (λ word. false ∷ word) (words (length w))) (true ∷ w) (Member-map (λ word. true ∷ word) w (Member-words w))
Member-words (false ∷ w) = Member-append_left (false ∷ w) (map (λ word. true ∷ word) (words (length w))) (Member-map (λ word. false ∷ word) w (Member-words w))

long-have : (w : List Bool) (n : ℕ) → length w ≡ n → Member w (words n)
long-have w n e = subst (λ k. Member w (words k)) e (Member-words w)

small-have : (b : List Bool) (k : ℕ) → k < 3 → length b ≡ 2 ^ suc k → Member b small_tables
small-have b zero lt e = Member-append_left b (words 8) (Member-append_left b (words 4) (long-have b 2 e))
small-have b (suc zero) lt e = Member-append_left b (words 8) (Member-append_right (words 2) b (long-have b 4 e))
small-have b (suc (suc zero)) lt e = Member-append_right (words 2 ++ words 4) b (long-have b 8 e)
small-have b (suc (suc (suc k))) lt e = absurd (omega arith)

-- the beads of a table that begin at its first bits
abbrev listed : List Bool → List Bool → List (List Bool)
listed [] t = []
listed (true ∷ marks) t = t ∷ (listed marks (low_half (width_of marks) t) ++ listed marks (high_half (width_of marks) t))
listed (false ∷ marks) t = listed marks (low_half (width_of marks) t)

listed-length : (marks t : List Bool) → length (listed marks t) ≡ weight marks
listed-length [] t = refl
listed-length (true ∷ marks) t =
    let l = listed-length marks (low_half (width_of marks) t) in
    let h = listed-length marks (high_half (width_of marks) t) in
    let a = length-append (listed marks (low_half (width_of marks) t)) (listed marks (high_half (width_of marks) t)) in
    omega arith
listed-length (false ∷ marks) t = listed-length marks (low_half (width_of marks) t)

-- each of its beads is one of them or small
listed-have : (marks t b : List Bool) → length t ≡ 2 ^ width_of marks → is_free marks t ≡ true → Member b (beads_of (width_of marks) t) → Member b (listed marks t) ⊎ Member b small_tables
listed-have [] t b e free m = let (k, lt, long) = bead-long 3 t b e m in inr (small-have b k lt long)
listed-have (true ∷ marks) t b e free m =
    let n : ℕ = width_of marks in
    let (low_free, high_free) = and_parts (is_free marks (low_half n t)) (is_free marks (high_half n t)) free in
    elim (bead_cases n b t m) [
      | inl (own, differ) ↦ inl (subst (λ (x : List Bool). Member x (listed (true ∷ marks) t)) own here)
      | inr halves ↦ elim halves [
        | inl low ↦ elim (listed-have marks (low_half n t) b (low-long n t e) low_free low) [
          | inl some ↦ inl (there (Member-append_left b (listed marks (high_half n t)) some))
          | inr small ↦ inr small
        ]
        | inr high ↦ elim (listed-have marks (high_half n t) b (high-long n t e) high_free high) [
          | inl some ↦ inl (there (Member-append_right (listed marks (low_half n t)) b some))
          | inr small ↦ inr small
        ]
      ]
    ]
listed-have (false ∷ marks) t b e free m =
    let n : ℕ = width_of marks in
    let (halves_same, low_free) = and_parts (is_same (low_half n t) (high_half n t)) (is_free marks (low_half n t)) free in
    elim (bead_cases n b t m) [
      | inl (own, differ) ↦ absurd (both_ways (is_same (low_half n t) (high_half n t)) differ halves_same)
      | inr halves ↦ elim halves [
        | inl low ↦ listed-have marks (low_half n t) b (low-long n t e) low_free low
        | inr high ↦ listed-have marks (low_half n t) b (low-long n t e) low_free (subst (λ (x : List Bool). Member b (beads_of n x)) (sym (is_same_only (low_half n t) (high_half n t) halves_same)) high)
      ]
    ]

-- of some tables
abbrev all_listed : List Marked → List (List Bool)
all_listed [] = []
all_listed (x ∷ xs) = listed x.marks x.table ++ all_listed xs

all_listed-length : (xs : List Marked) → length (all_listed xs) ≡ weights xs
all_listed-length [] = refl
all_listed-length (x ∷ xs) =
    let a = length-append (listed x.marks x.table) (all_listed xs) in
    let l = listed-length x.marks x.table in
    let r = all_listed-length xs in
    omega arith

all_listed-have : (n : ℕ) (xs : List Marked) → AllByRecursion (IsMarked n) xs → (b : List Bool) → Member b (flat_map (beads_of n) (map (λ (x : Marked). x.table) xs)) → Member b (all_listed xs) ⊎ Member b small_tables
all_listed-have n [] are b m = elim m [ ]
all_listed-have n (x ∷ xs) are b m =
    let is = are.0 in
    elim (Member-append_cases b (beads_of n x.table) (flat_map (beads_of n) (map (λ (x : Marked). x.table) xs)) (subst (λ (bs : List (List Bool)). Member b bs) (flat_map-cons (beads_of n) x.table (map (λ (x : Marked). x.table) xs)) m)) [
      | inl own ↦
          elim (listed-have x.marks x.table b (is.long ∙ ap (λ (k : ℕ). 2 ^ k) (sym is.width)) is.free (subst (λ (k : ℕ). Member b (beads_of k x.table)) (sym is.width) own)) [
            | inl some ↦ inl (Member-append_left b (all_listed xs) some)
            | inr small ↦ inr small
          ]
      | inr rest ↦
          elim (all_listed-have n xs are.1 b rest) [
            | inl some ↦ inl (Member-append_right (listed x.marks x.table) b some)
            | inr small ↦ inr small
          ]
    ]

small-length : length small_tables ≡ 276
small-length = refl

-- so many distinct beads
pub bead_count-bounded : (n : ℕ) (xs : List Marked) → AllByRecursion (IsMarked n) xs → bead_count n (map (λ (x : Marked). x.table) xs) ≤ weights xs + 276
bead_count-bounded n xs are =
    let le = distinct-le (flat_map (beads_of n) (map (λ (x : Marked). x.table) xs)) (all_listed xs ++ small_tables) (λ q m.
    elim (all_listed-have n xs are q (member_from_test (flat_map (beads_of n) (map (λ (x : Marked). x.table) xs)) q m)) [
      | inl some ↦ test_from_member q (Member-append_left q small_tables some)
      | inr small ↦ test_from_member q (Member-append_right (all_listed xs) q small)
    ]) in
    let a = length-append (all_listed xs) small_tables in
    let l = all_listed-length xs in
    let s = small-length in
    let c = bead_count-computes n (map (λ (x : Marked). x.table) xs) in
    omega arith
