-- When two lists are the same: at each place, in increasing order, or but for their order.
use Rattle.ncl_base.proofs.Terms.{AllPairs, AllPairs-cons, AllZip, Contains-permutation, IsPermutation, IsPermutation-cons, IsPermutation-refl, IsPermutation-remove, IsPermutation-trans, List, Some, [], ap, append-nil, arith, cases_lt, get_or, get_or_from_slice_get, inl, inr, length, length-append, length_permutation, map, refl, remove, slice_get, slice_get_within, subst, suc, sym, zero, ℕ, ◌++◌, ◌<◌, ◌∷◌, ◌≡◌, ◌≢◌, ◌≤◌, drop, take, common_steps}
use Rattle.ncl_base.proofs.Members.{Member, here, there, member_of_map, Contains-from_Member, Member-from_Contains, All-from_members}

-- lists that have the same at each place
pub same_from_places : {X : Type 0} (xs ys : List X) → ((k : ℕ) (x : X) → slice_get xs k ≡ Some x → slice_get ys k ≡ Some x) → ((k : ℕ) (x : X) → slice_get ys k ≡ Some x → slice_get xs k ≡ Some x) → xs ≡ ys
same_from_places [] [] to from = refl
same_from_places [] (y ∷ ys) to from = let none = from zero y refl in absurd cc
same_from_places (x ∷ xs) [] to from = let none = to zero x refl in absurd cc
same_from_places (x ∷ xs) (y ∷ ys) to from =
    let first = to zero x refl in
    let rest : xs ≡ ys = same_from_places xs ys (λ k. to (suc k)) (λ k. from (suc k)) in
    cc

-- lists of one length that have the same at each place
pub same_from_lengths : {X : Type 0} (xs ys : List X) → length xs ≡ length ys → ((k : ℕ) (x y : X) → slice_get xs k ≡ Some x → slice_get ys k ≡ Some y → x ≡ y) → xs ≡ ys
same_from_lengths [] [] lengths same = refl
same_from_lengths [] (y ∷ ys) lengths same = absurd (omega arith)
same_from_lengths (x ∷ xs) [] lengths same = absurd (omega arith)
same_from_lengths (x ∷ xs) (y ∷ ys) lengths same =
    let first : x ≡ y = same zero x y refl refl in
    let rest : xs ≡ ys = same_from_lengths xs ys (omega arith) (λ k. same (suc k)) in
    cc

-- what holds at each place of two lists of one length
pub AllZip-from_places : {X Y : Type 0} (R : X → Y → Type 0) (xs : List X) (ys : List Y) → length xs ≡ length ys → ((k : ℕ) (x : X) (y : Y) → slice_get xs k ≡ Some x → slice_get ys k ≡ Some y → R x y) → AllZip R xs ys
AllZip-from_places R [] [] lengths each = tt
AllZip-from_places R [] (y ∷ ys) lengths each = absurd (omega arith)
AllZip-from_places R (x ∷ xs) [] lengths each = absurd (omega arith)
AllZip-from_places R (x ∷ xs) (y ∷ ys) lengths each = (each zero x y refl refl, AllZip-from_places R xs ys (omega arith) (λ k. each (suc k)))

-- so of what stands at a place
pub AllZip-at : {X Y : Type 0} (R : X → Y → Type 0) (xs : List X) (ys : List Y) → AllZip R xs ys → (k : ℕ) (x : X) (d : Y) → slice_get xs k ≡ Some x → R x (get_or ys k d)
AllZip-at R [] ys zip k x d at = absurd cc
AllZip-at R (x ∷ xs) [] zip k y d at = absurd zip
AllZip-at R (x ∷ xs) (z ∷ ys) zip zero y d at = let same : x ≡ y = cc in subst (λ q. R q z) same zip.0
AllZip-at R (x ∷ xs) (z ∷ ys) zip (suc k) y d at = AllZip-at R xs ys zip.1 k y d at

-- lists that go with one list, by a relation that says which, are the same
pub AllZip-one : {X Y : Type 0} (R : X → Y → Type 0) (xs : List X) (ys zs : List Y) → ((x : X) (y z : Y) → Member x xs → R x y → R x z → y ≡ z) → AllZip R xs ys → AllZip R xs zs → ys ≡ zs
AllZip-one R [] [] [] one with_y with_z = refl
AllZip-one R [] [] (z ∷ zs) one with_y with_z = absurd with_z
AllZip-one R [] (y ∷ ys) zs one with_y with_z = absurd with_y
AllZip-one R (x ∷ xs) [] zs one with_y with_z = absurd with_y
AllZip-one R (x ∷ xs) (y ∷ ys) [] one with_y with_z = absurd with_z
AllZip-one R (x ∷ xs) (y ∷ ys) (z ∷ zs) one with_y with_z =
    let first : y ≡ z = one x y z here with_y.0 with_z.0 in
    let rest : ys ≡ zs = AllZip-one R xs ys zs (λ x y z m. one x y z (there m)) with_y.1 with_z.1 in
    cc

-- the pairs of a list: its head with each later member, and those of its rest
pub pairs-head : {X : Type 0} (R : X → X → Type 0) (x : X) (xs : List X) → AllPairs R (x ∷ xs) → (y : X) → Member y xs → R x y
pairs-head R x xs all y m =
    let (k, lt, at) = Contains-from_Member y m in
    subst (R x) at (all zero (suc k) y (omega arith) (omega arith))

pub pairs-tail : {X : Type 0} (R : X → X → Type 0) (x : X) (xs : List X) → AllPairs R (x ∷ xs) → AllPairs R xs
pairs-tail R x xs all i j d lt within = all (suc i) (suc j) d (omega arith) (omega arith)

-- each member of xs has a member of ys with its key
abbrev pub HasKeys : {X : Type 0} → (X → ℕ) → List X → List X → Type 0
HasKeys {X} key xs ys = (x : X) → Member x xs → (y : X) × Member y ys × (key x ≡ key y)

abbrev pub AreIncreasing : {X : Type 0} → (X → ℕ) → List X → Type 0
AreIncreasing {X} key xs = AllPairs (λ (x y : X). key x < key y) xs

-- a key stands at one place of a list in increasing order
pub increasing_place : {X : Type 0} (key : X → ℕ) (xs : List X) → AreIncreasing key xs → (i j : ℕ) (x y : X) → slice_get xs i ≡ Some x → slice_get xs j ≡ Some y → key x ≡ key y → i ≡ j
increasing_place key xs up i j x y at_x at_y same =
    elim (cases_lt i j) [
      | inl less ↦ let grows = before i j x y at_x at_y less in absurd (omega (arith, grows, same))
      | inr over ↦ elim (cases_lt j i) [
        | inl more ↦ let grows = before j i y x at_y at_x more in absurd (omega (arith, grows, same))
        | inr under ↦ omega (arith, over, under)
      ]
    ]
  where
    before : (i j : ℕ) (x y : _) → slice_get xs i ≡ Some x → slice_get xs j ≡ Some y → i < j → key x < key y
    before i j x y at_x at_y less =
        let grows = up i j x less (slice_get_within xs j y at_y) in
        let first = ap key (get_or_from_slice_get xs i x x at_x) in
        let second = ap key (get_or_from_slice_get xs j y x at_y) in
        omega (arith, grows, first, second)

-- the head of a list in increasing order has no greater key than a member
head_least : {X : Type 0} (key : X → ℕ) (x : X) (xs : List X) → AreIncreasing key (x ∷ xs) → (y : X) → Member y (x ∷ xs) → key x ≤ key y
head_least key x xs up y here = omega arith
head_least key x xs up y (there m) = let less = pairs-head (λ x y. key x < key y) x xs up y m in omega (arith, less)

rest_has : {X : Type 0} (key : X → ℕ) (x y : X) (xs ys : List X) → key x ≡ key y → AreIncreasing key (x ∷ xs) → HasKeys key (x ∷ xs) (y ∷ ys) → HasKeys key xs ys
rest_has key x y xs ys heads up to other m =
    let less = pairs-head (λ x y. key x < key y) x xs up other m in
    let (found, is_in, same) = to other (there m) in
    not_head found is_in same less
  where
    not_head : (found : _) → Member found (y ∷ ys) → key other ≡ key found → key x < key other → (z : _) × Member z ys × (key other ≡ key z)
    not_head found here same less = absurd (omega (arith, heads, same, less))
    not_head found (there is_in) same less = (found, is_in, same)

-- lists in increasing order with the same keys, which say which member it is
pub same_increasing : {X : Type 0} (key : X → ℕ) (xs ys : List X) → AreIncreasing key xs → AreIncreasing key ys → HasKeys key xs ys → HasKeys key ys xs → ((x y : X) → Member x xs → Member y ys → key x ≡ key y → x ≡ y) → xs ≡ ys
same_increasing key [] [] up_x up_y to from one = refl
same_increasing key [] (y ∷ ys) up_x up_y to from one = let (x, m, same) = from y here in elim m [ ]
same_increasing key (x ∷ xs) [] up_x up_y to from one = let (y, m, same) = to x here in elim m [ ]
same_increasing key (x ∷ xs) (y ∷ ys) up_x up_y to from one =
    let (found_y, in_y, same_y) = to x here in
    let (found_x, in_x, same_x) = from y here in
    let least_y = head_least key y ys up_y found_y in_y in
    let least_x = head_least key x xs up_x found_x in_x in
    let heads : key x ≡ key y = omega (arith, same_x, same_y, least_x, least_y) in
    let first : x ≡ y = one x y here here heads in
    let rest : xs ≡ ys = same_increasing key xs ys (pairs-tail (λ x y. key x < key y) x xs up_x) (pairs-tail (λ x y. key x < key y) y ys up_y) (rest_has key x y xs ys heads up_x to) (rest_has key y x ys xs (sym heads) up_y from) (λ a b in_a in_b. one a b (there in_a) (there in_b)) in
    cc

abbrev pub Differ : {X : Type 0} → (X → ℕ) → List X → Type 0
Differ {X} key xs = AllPairs (λ (x y : X). key x ≢ key y) xs

pub differ_of_map : {X : Type 0} (key : X → ℕ) (xs : List X) → Differ key xs → AllPairs (λ a b. a ≢ b) (map key xs)
differ_of_map key [] differ = λ i j d before within. absurd (omega (arith, within))
differ_of_map key (x ∷ xs) differ =
    AllPairs-cons (λ a b. a ≢ b) (key x) (map key xs)
    (All-from_members (λ b. key x ≢ b) (map key xs) (λ b m.
    let (y, n, e) = member_of_map key xs b m in
    subst (λ z. key x ≢ z) e (pairs-head (λ x y. key x ≢ key y) x xs differ y n)))
    (differ_of_map key xs (pairs-tail (λ x y. key x ≢ key y) x xs differ))

-- where the members of xs differ and are members of ys, these are xs and others
with_rest : {X : Type 0} (key : X → ℕ) (xs ys : List X) → Differ key xs → ((x : X) → Member x xs → Member x ys) → (rest : List X) × IsPermutation ys (xs ++ rest)
with_rest key [] ys differ to = (ys, IsPermutation-refl ys)
with_rest key (x ∷ xs) ys differ to =
    let (i, lt, at) = Contains-from_Member x (to x here) in
    let moved : IsPermutation ys (x ∷ remove ys i) = IsPermutation-remove ys i x lt (sym at) in
    let (rest, rest_moved) = with_rest key xs (remove ys i) (pairs-tail (λ x y. key x ≢ key y) x xs differ)
    (λ y m. past y (pairs-head (λ x y. key x ≢ key y) x xs differ y m) (Member-from_Contains (x ∷ remove ys i) y (Contains-permutation ys (x ∷ remove ys i) y moved (Contains-from_Member y (to y (there m)))))) in
    (rest, IsPermutation-trans ys (x ∷ remove ys i) (x ∷ (xs ++ rest)) moved (IsPermutation-cons x (remove ys i) (xs ++ rest) rest_moved))
  where
    past : {zs : List _} → (y : _) → key x ≢ key y → Member y (x ∷ zs) → Member y zs
    past y other here = absurd (other refl)
    past y other (there m) = m

-- lists whose members differ and are the same are the same but for their order
pub IsPermutation-from_members : {X : Type 0} (key : X → ℕ) (xs ys : List X) → Differ key xs → Differ key ys → ((x : X) → Member x xs → Member x ys) → ((y : X) → Member y ys → Member y xs) → IsPermutation xs ys
IsPermutation-from_members {X} key xs ys differ_x differ_y to from =
    let (rest_y, moved_y) = with_rest key xs ys differ_x to in
    let (rest_x, moved_x) = with_rest key ys xs differ_y from in
    let length_y = length_permutation ys (xs ++ rest_y) moved_y in
    let length_x = length_permutation xs (ys ++ rest_x) moved_x in
    let none : length rest_x ≡ 0 = omega (arith, length_x, length_y, length-append xs rest_y, length-append ys rest_x) in
    no_rest rest_x none moved_x
  where
    no_rest : (rest : List X) → length rest ≡ 0 → IsPermutation xs (ys ++ rest) → IsPermutation xs ys
    no_rest [] none moved = subst (IsPermutation xs) (append-nil ys) moved
    no_rest (z ∷ rest) none moved = absurd (omega arith)

-- where a slice that stands for all of a list is written, the list is the slice afterwards
pub take-written : {X : Type 0} (len : ℕ) (new old : List X) → len ≡ length old → length new ≡ length old → take len (new ++ drop (length new) old) ≡ new
take-written len new old all many = grind (arith, common_steps)
