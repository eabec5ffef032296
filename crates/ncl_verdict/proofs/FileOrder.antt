-- The cells of a stage in the order of the file: each once, whatever the order in which the stage lists them.
use Rattle.ncl_verdict.proofs.Terms.{All, All-from_members, All-permutation, AllPairs-cons, AreIncreasing, Bit, Bool, Cell, Contains-from_Member, Contains-from_slice_get, Contains-permutation, Differ, HasKeys, IsAfterBase, IsDistinct, IsDistinct-IsPermutation, IsDistinct-from_apart, IsNonDecreasingBy, IsPermutation, IsPermutation-sym, IsStage, List, Member, Member-append_cases, Member-from_Contains, Member-map, Option, Some, StageCell, StageData, Th12, [], after_base, ap, apart_from_distinct, arith, below_of_range, both_ways, cases_eq, cases_lt, cell_number, differ_of_map, eq-eqb, false, file_number, file_order, get_or, get_or-map, get_or-range_with_len, here, if◌then◌else◌, inl, inr, inserted, length, length-map, length-range_with_len, ltb-false, ltb-true, map, member_cases, member_of_map, nat_eq, nat_lt, ne_eqb, ordered_by, pairs-head, pairs-tail, range_with_len, refl, same_from_value, same_increasing, slice_get, slice_get-from_Contains, slice_get-get_or, slice_get-some, slice_get_within, subst, suc, sym, there, true, zero, ℕ, ◌++◌, ◌+◌, ◌<◌, ◌∙◌, ◌∷◌, ◌≡◌, ◌≢◌, ◌⊎◌}
use Rattle.ncl_verdict.specs.Judgement.{below}
use Rattle.ncl_verdict.proofs.Places.{Member-below, Member-ordered_by}

-- ordering adds no place
inserted-members : (key : ℕ → ℕ) (place : ℕ) (places : List ℕ) (k : ℕ) → Member k (inserted key place places) → (place ≡ k) ⊎ Member k places
inserted-members key place [] k m = elim (member_cases k place [] m) [ inl own ↦ inl own | inr n ↦ elim n [ ] ]
inserted-members key place (other ∷ places) k m = by_test (nat_lt (key place) (key other)) (inserted-members key place places k) m
  where
    by_test : (b : Bool) → (Member k (inserted key place places) → (place ≡ k) ⊎ Member k places) → Member k (if b then place ∷ other ∷ places else other ∷ inserted key place places) → (place ≡ k) ⊎ Member k (other ∷ places)
    by_test true later n = member_cases k place (other ∷ places) n
    by_test false later n =
        elim (member_cases k other (inserted key place places) n) [
          | inl first ↦ inr (subst (λ x. Member k (x ∷ places)) (sym first) here)
          | inr rest ↦ elim (later rest) [ inl own ↦ inl own | inr old ↦ inr (there old) ]
        ]

ordered_by-members : (key : ℕ → ℕ) (places : List ℕ) (k : ℕ) → Member k (ordered_by key places) → Member k places
ordered_by-members key [] k m = elim m [ ]
ordered_by-members key (place ∷ places) k m =
    elim (inserted-members key place (ordered_by key places) k m) [
      | inl own ↦ subst (λ x. Member k (x ∷ places)) (sym own) here
      | inr n ↦ there (ordered_by-members key places k n)
    ]

-- places whose keys differ come into increasing order
inserted-increasing : (key : ℕ → ℕ) (place : ℕ) (places : List ℕ) → AreIncreasing key places → ((k : ℕ) → Member k places → key place ≢ key k) → AreIncreasing key (inserted key place places)
inserted-increasing key place [] up apart = λ i j d before within. absurd (omega (arith, before, within))
inserted-increasing key place (other ∷ places) up apart =
    by_test (nat_lt (key place) (key other)) refl (inserted-increasing key place places (pairs-tail (λ x y. key x < key y) other places up) (λ k m. apart k (there m)))
  where
    by_test : (b : Bool) → nat_lt (key place) (key other) ≡ b → AreIncreasing key (inserted key place places) → AreIncreasing key (if b then place ∷ other ∷ places else other ∷ inserted key place places)
    by_test true is later =
        let less : key place < key other = ltb-true (key place) (key other) is in
        AllPairs-cons (λ x y. key x < key y) place (other ∷ places) (All-from_members (λ y. key place < key y) (other ∷ places) (λ y m.
        elim (member_cases y other places m) [
          | inl first ↦ subst (λ x. key place < key x) first less
          | inr n ↦ let more = pairs-head (λ x y. key x < key y) other places up y n in omega (arith, less, more)
        ])) up
    by_test false is later =
        let least = ltb-false (key place) (key other) is in
        let other_key = apart other here in
        AllPairs-cons (λ x y. key x < key y) other (inserted key place places) (All-from_members (λ y. key other < key y) (inserted key place places) (λ y m.
        elim (inserted-members key place places y m) [
          | inl own ↦ subst (λ x. key other < key x) own (omega (arith, least, other_key))
          | inr n ↦ pairs-head (λ x y. key x < key y) other places up y n
        ])) later

ordered_by-increasing : (key : ℕ → ℕ) (places : List ℕ) → Differ key places → AreIncreasing key (ordered_by key places)
ordered_by-increasing key [] differ = λ i j d before within. absurd (omega (arith, before, within))
ordered_by-increasing key (place ∷ places) differ =
    inserted-increasing key place (ordered_by key places) (ordered_by-increasing key places (pairs-tail (λ x y. key x ≢ key y) place places differ))
    (λ k m. pairs-head (λ x y. key x ≢ key y) place places differ k (ordered_by-members key places k m))

-- the places in the order of the file are those of the stage's cells
pub file_order-within : (s : StageData) (k : ℕ) → Member k (file_order s) → k < length s.cells
file_order-within s k m = let lt = below_of_range 0 (length s.cells) k (ordered_by-members (file_number s) (below (length s.cells)) k m) in omega (arith, lt)

pub Member-file_order : (s : StageData) (k : ℕ) → k < length s.cells → Member k (file_order s)
Member-file_order s k lt = Member-ordered_by (file_number s) (below (length s.cells)) k (Member-below (length s.cells) k lt)

pub file_number-at : (s : StageData) (k : ℕ) (d : StageCell) → k < length s.cells → file_number s k ≡ (get_or s.cells k d).cell.0
file_number-at s k d lt = ap (λ c. (cell_number c).0) (slice_get-get_or s.cells k d lt)

-- cells at different places have different numbers
pub numbers_apart : (s : StageData) → IsStage s → (i j : ℕ) → i < j → j < length s.cells → file_number s i ≢ file_number s j
numbers_apart s is i j less within same =
    let d : StageCell = record { cell = record { 0 = 0 }; kind = Th12; ins = record { items = [] }; out = record { 0 = 0 } } in
    is.cells_differ i j d less within (sym (file_number-at s i d (omega arith)) ∙ same ∙ file_number-at s j d within)

pub file_order-increasing : (s : StageData) → IsStage s → AreIncreasing (file_number s) (file_order s)
file_order-increasing s is =
    ordered_by-increasing (file_number s) (below (length s.cells)) (λ i j d before within same.
    let count = length-range_with_len 0 (length s.cells) in
    let inside : j < length s.cells = omega (arith, within, count) in
    let first : get_or (below (length s.cells)) i d ≡ i = let at = get_or-range_with_len 0 (length s.cells) i d (omega (arith, before, inside)) in omega (arith, at) in
    let second : get_or (below (length s.cells)) j d ≡ j = let at = get_or-range_with_len 0 (length s.cells) j d inside in omega (arith, at) in
    numbers_apart s is i j before inside (ap (file_number s) (sym first) ∙ same ∙ ap (file_number s) second))

-- ---- the cells themselves
-- the cells in the order of the file
abbrev pub cells_in_order : StageData → List (Option StageCell)
cells_in_order s = map (slice_get s.cells) (file_order s)

abbrev number_of : Option StageCell → ℕ
number_of o = (cell_number o).0

increasing_of_map : {X Y : Type 0} (f : X → Y) (key : Y → ℕ) (xs : List X) → AreIncreasing (λ x. key (f x)) xs → AreIncreasing key (map f xs)
increasing_of_map f key [] up = λ i j d before within. absurd (omega (arith, before, within))
increasing_of_map f key (x ∷ xs) up =
    AllPairs-cons (λ a b. key a < key b) (f x) (map f xs)
    (All-from_members (λ b. key (f x) < key b) (map f xs) (λ b m.
    let (y, n, e) = member_of_map f xs b m in
    subst (λ z. key (f x) < key z) e (pairs-head (λ x y. key (f x) < key (f y)) x xs up y n)))
    (increasing_of_map f key xs (pairs-tail (λ x y. key (f x) < key (f y)) x xs up))

ordered-from : (s : StageData) (o : Option StageCell) → Member o (cells_in_order s) → (c : StageCell) × (o ≡ Some c) × Member c s.cells
ordered-from s o m =
    let (k, in_order, at) = member_of_map (slice_get s.cells) (file_order s) o m in
    let (c, at_c) = slice_get-some s.cells k (file_order-within s k in_order) in
    (c, sym at ∙ at_c, Member-from_Contains s.cells c (Contains-from_slice_get s.cells k c at_c))

ordered-has : (s : StageData) (c : StageCell) (k : ℕ) → slice_get s.cells k ≡ Some c → k < length s.cells → Member (Some c) (cells_in_order s)
ordered-has s c k at lt = subst (λ o. Member o (cells_in_order s)) at (Member-map (slice_get s.cells) k (Member-file_order s k lt))

-- stages with the same cells have them in the same order
pub same_cells_in_order : (s t : StageData) → IsStage s → IsStage t → IsPermutation s.cells t.cells → cells_in_order s ≡ cells_in_order t
same_cells_in_order s t is_s is_t moved =
    same_increasing number_of (cells_in_order s) (cells_in_order t)
    (increasing_of_map (slice_get s.cells) number_of (file_order s) (file_order-increasing s is_s))
    (increasing_of_map (slice_get t.cells) number_of (file_order t) (file_order-increasing t is_t))
    (keys s t moved) (keys t s (IsPermutation-sym s.cells t.cells moved)) one
  where
    keys : (s t : StageData) → IsPermutation s.cells t.cells → HasKeys number_of (cells_in_order s) (cells_in_order t)
    keys s t moved o m =
        let (c, is_c, in_s) = ordered-from s o m in
        let (k, at) = slice_get-from_Contains t.cells c (Contains-permutation s.cells t.cells c moved (Contains-from_Member c in_s)) in
        (Some c, ordered-has t c k at (slice_get_within t.cells k c at), ap number_of is_c)

    one : (x y : Option StageCell) → Member x (cells_in_order s) → Member y (cells_in_order t) → number_of x ≡ number_of y → x ≡ y
    one x y in_s in_t same =
        let (c, is_c, c_in) = ordered-from s x in_s in
        let (d, is_d, d_in) = ordered-from t y in_t in
        let d_too = Member-from_Contains s.cells d (Contains-permutation t.cells s.cells d (IsPermutation-sym s.cells t.cells moved) (Contains-from_Member d d_in)) in
        let numbers : c.cell.0 ≡ d.cell.0 = sym (ap number_of is_c) ∙ same ∙ ap number_of is_d in
        is_c ∙ ap Some (same_from_value (λ (x : StageCell). x.cell.0) s.cells (differ_of_map (λ (x : StageCell). x.cell.0) s.cells is_s.cells_differ) c d c_in d_too numbers) ∙ sym is_d

-- ---- sorting by the numbers
-- a place with the number of its cell
abbrev pub numbered : StageData → ℕ → ℕ × ℕ
numbered s place = (file_number s place, place)

below-at : (n k d : ℕ) → k < n → get_or (below n) k d ≡ k
below-at n k d lt = let at = get_or-range_with_len 0 n k d lt in omega (arith, at)

numbered-at : (s : StageData) (n k : ℕ) (e : ℕ × ℕ) → k < n → get_or (map (numbered s) (below n)) k e ≡ numbered s k
numbered-at s n k e lt =
    get_or-map (numbered s) (below n) k 0 e (omega (arith, length-range_with_len 0 n)) ∙ ap (numbered s) (below-at n k 0 lt)

-- numbers of different cells differ
numbered-distinct : (s : StageData) → IsStage s → IsDistinct (λ p q. nat_eq p.0 q.0) (map (numbered s) (below (length s.cells)))
numbered-distinct s is = IsDistinct-from_apart (λ p q. nat_eq p.0 q.0) (map (numbered s) (below (length s.cells))) (λ i j d before within.
    let many : length (map (numbered s) (below (length s.cells))) ≡ length s.cells = length-map (below (length s.cells)) (numbered s) ∙ length-range_with_len 0 (length s.cells) in
    let in_j : j < length s.cells = omega arith in
    let in_i : i < length s.cells = omega arith in
    (λ k. nat_eq (numbered-at s (length s.cells) i d in_i k).0 (numbered-at s (length s.cells) j d in_j k).0) ∙ ne_eqb (file_number s i) (file_number s j) (numbers_apart s is i j before in_j))

eqb-flips : (x y : ℕ) → nat_eq x y ≡ nat_eq y x
eqb-flips x y = elim (cases_eq x y) [
  | inl same ↦ eq-eqb x y same ∙ sym (eq-eqb y x (sym same))
  | inr other ↦ ne_eqb x y other ∙ sym (ne_eqb y x (λ e. other (sym e)))
]

-- sorted by their numbers, the places are in the order of the file
pub sorted-places : (s : StageData) → IsStage s → (ys : List (ℕ × ℕ)) → IsPermutation (map (numbered s) (below (length s.cells))) ys → IsNonDecreasingBy (λ p. p.0) ys → map (λ p. p.1) ys ≡ file_order s
sorted-places s is ys moved up = same_increasing (file_number s) zs (file_order s) rises (file_order-increasing s is) to from one
  where
    xs : List (ℕ × ℕ)
    xs = map (numbered s) (below (length s.cells))

    zs : List ℕ
    zs = map (λ (p : ℕ × ℕ). p.1) ys

    own : All (λ p. p.0 ≡ file_number s p.1) ys
    own = All-permutation (λ p. p.0 ≡ file_number s p.1) xs ys moved (All-from_members (λ p. p.0 ≡ file_number s p.1) xs (λ p m.
        let (k, n, e) = member_of_map (numbered s) (below (length s.cells)) p m in
        subst (λ (q : ℕ × ℕ). q.0 ≡ file_number s q.1) e refl))

    apart : IsDistinct (λ p q. nat_eq p.0 q.0) ys
    apart = IsDistinct-IsPermutation (λ p q. nat_eq p.0 q.0) (λ p q. eqb-flips p.0 q.0) xs ys moved (numbered-distinct s is)

    rises : AreIncreasing (file_number s) zs
    rises = λ i j d before within.
        let many : length zs ≡ length ys = length-map ys (λ (p : ℕ × ℕ). p.1) in
        let in_j : j < length ys = omega arith in
        let in_i : i < length ys = omega arith in
        let one_ : file_number s (get_or zs i d) ≡ (get_or ys i (0, d)).0 = ap (file_number s) (get_or-map (λ (p : ℕ × ℕ). p.1) ys i (0, d) d in_i) ∙ sym (own i (0, d) in_i) in
        let two : file_number s (get_or zs j d) ≡ (get_or ys j (0, d)).0 = ap (file_number s) (get_or-map (λ (p : ℕ × ℕ). p.1) ys j (0, d) d in_j) ∙ sym (own j (0, d) in_j) in
        let least = up i j (0, d) (omega arith) in_j in
        let other : (get_or ys i (0, d)).0 ≢ (get_or ys j (0, d)).0 = λ same. both_ways (nat_eq (get_or ys i (0, d)).0 (get_or ys j (0, d)).0) (apart_from_distinct (λ p q. nat_eq p.0 q.0) ys i j (0, d) apart before in_j) (eq-eqb (get_or ys i (0, d)).0 (get_or ys j (0, d)).0 same) in
        omega (arith, one_, two, least, other)

    place : (x : ℕ) → Member x zs → x < length s.cells
    place x m =
        let (p, in_ys, at) = member_of_map (λ (p : ℕ × ℕ). p.1) ys x m in
        let in_xs = Member-from_Contains xs p (Contains-permutation ys xs p (IsPermutation-sym xs ys moved) (Contains-from_Member p in_ys)) in
        let (k, n, e) = member_of_map (numbered s) (below (length s.cells)) p in_xs in
        let lt = below_of_range 0 (length s.cells) k n in
        let same : k ≡ x = ap (λ (q : ℕ × ℕ). q.1) e ∙ at in
        omega (arith, lt, same)

    to : HasKeys (file_number s) zs (file_order s)
    to x m = (x, Member-file_order s x (place x m), refl)

    from : HasKeys (file_number s) (file_order s) zs
    from y m =
        let lt = file_order-within s y m in
        let in_xs = Member-map (numbered s) y (Member-below (length s.cells) y lt) in
        let in_ys = Member-from_Contains ys (numbered s y) (Contains-permutation xs ys (numbered s y) moved (Contains-from_Member (numbered s y) in_xs)) in
        (y, Member-map (λ (p : ℕ × ℕ). p.1) (numbered s y) in_ys, refl)

    one : (x y : ℕ) → Member x zs → Member y (file_order s) → file_number s x ≡ file_number s y → x ≡ y
    one x y in_x in_y same =
        elim (cases_eq x y) [
          | inl e ↦ e
          | inr other ↦
              elim (cases_lt x y) [
                | inl less ↦ absurd (numbers_apart s is x y less (file_order-within s y in_y) same)
                | inr more ↦ absurd (numbers_apart s is y x (omega arith) (place x in_x) (sym same))
              ]
        ]

-- the variants after Base are of the stage's bits and cells
pub after_base-within : (s : StageData) → All (IsAfterBase s) (after_base s)
after_base-within s =
    All-from_members (IsAfterBase s) (after_base s) (λ variant m.
    elim (Member-append_cases variant (map Bit (below (length s.inputs))) (map Cell (file_order s)) m) [
      | inl among ↦
          let (bit, n, is) = member_of_map Bit (below (length s.inputs)) variant among in
          subst (IsAfterBase s) is (let lt = below_of_range 0 (length s.inputs) bit n in omega (arith, lt))
      | inr among ↦
          let (cell, n, is) = member_of_map Cell (file_order s) variant among in
          subst (IsAfterBase s) is (file_order-within s cell n)
    ])

-- the numbers below one more
pub below-more : (n : ℕ) → below (n + 1) ≡ below n ++ n ∷ []
below-more n = from_there 0 n ∙ ap (λ k. below n ++ k ∷ []) (let same : 0 + n ≡ n = omega arith in same)
  where
    from_there : (from count : ℕ) → range_with_len from (count + 1) ≡ range_with_len from count ++ (from + count) ∷ []
    from_there from zero = ap (λ k. k ∷ []) (let same : from ≡ from + 0 = omega arith in same)
    from_there from (suc count) =
        let more : suc count + 1 ≡ suc (count + 1) = omega arith in
        let last : (from + 1) + count ≡ from + suc count = omega arith in
        ap (range_with_len from) more ∙ ap (λ l. from ∷ l) (from_there (from + 1) count ∙ ap (λ k. range_with_len (from + 1) count ++ k ∷ []) last)
