-- What holds at places and of members of lists, and tests over lists.
use Rattle.ncl_rails.proofs.Terms.{All, AllZip, Bool, Contains, List, Member, Some, [], and_left, and_right, ap, arith, cases_Bool, cond-false, cond-true, drop, false, filter, get_or, get_or_push, here, inl, inr, length, length_push, list_all, map, member_cases, refl, set, slice_get, slice_index_or, subst, suc, sym, take, take-append_seam, there, zero, ℕ, ◌++◌, ◌-◌, ◌<◌, ◌∙◌, ◌∷◌, ◌≡◌}

pub at_member : {X : Type 0} (P : X → Type 0) (xs : List X) → All P xs → (x : X) → Contains xs x → P x
at_member P xs all x (k, lt, at) = subst P at (all k x lt)

-- a member that fails a test
pub list_all-fails : {X : Type 0} (p : X → Bool) (x : X) {xs : List X} → Member x xs → p x ≡ false → list_all p xs ≡ false
list_all-fails p x (here {xs = xs}) fails = and_left (p x) (list_all p xs) fails
list_all-fails p x (there {y = y} {xs = xs} m) fails = and_right (p y) (list_all p xs) (list_all-fails p x m fails)

-- ---- lists that are cut

pub stands_before : {X : Type 0} (xs : List X) (y : X) (k : ℕ) (x : X) → k < length xs → slice_get (xs ++ y ∷ []) k ≡ Some x → slice_get xs k ≡ Some x
stands_before [] y k x lt at = absurd (omega arith)
stands_before (z ∷ xs) y zero x lt at = at
stands_before (z ∷ xs) y (suc k) x lt at = stands_before xs y k x (omega arith) at

-- what stands before the last of a list, and the last
pub but_last : {X : Type 0} (xs : List X) (y : X) → take (length (xs ++ y ∷ []) - 1) (xs ++ y ∷ []) ≡ xs
but_last xs y = let count : length (xs ++ y ∷ []) - 1 ≡ length xs = omega (arith, length_push xs y) in ap (λ n. take n (xs ++ y ∷ [])) count ∙ take-append_seam xs (y ∷ [])

pub last_at : {X : Type 0} (xs : List X) (y d : X) → slice_index_or (xs ++ y ∷ []) (length (xs ++ y ∷ []) - 1) d ≡ y
last_at xs y d = get_or_push xs y d (length (xs ++ y ∷ []) - 1) (omega (arith, length_push xs y))

-- a list by its first element, and with another one in its place
pub cut_first : {X : Type 0} (xs : List X) (o : X) → 0 < length xs → o ≡ get_or xs 0 o → xs ≡ o ∷ drop 1 xs
cut_first [] o some at = absurd (omega (arith, some))
cut_first (x ∷ xs) o some at = ap (λ y. y ∷ xs) (sym at)

pub set_first : {X : Type 0} (xs : List X) (o : X) → 0 < length xs → set xs 0 o ≡ o ∷ drop 1 xs
set_first [] o some = absurd (omega (arith, some))
set_first (x ∷ xs) o some = refl

-- ---- filters and ranges

pub filter_within : (test : ℕ → Bool) (x : ℕ) (xs : List ℕ) → Member x (filter test xs) → Member x xs
filter_within test x [] m = m
filter_within test x (y ∷ xs) m =
    elim (cases_Bool (test y)) [
      | inl passes ↦
          elim (member_cases x y (filter test xs) (subst (Member x) (cond-true (test y) (y ∷ filter test xs) (filter test xs) passes) m)) [
            | inl same ↦ subst (λ z. Member z (y ∷ xs)) same here
            | inr rest ↦ there (filter_within test x xs rest)
          ]
      | inr fails ↦ there (filter_within test x xs (subst (Member x) (cond-false (test y) (y ∷ filter test xs) (filter test xs) fails) m))
    ]

-- ---- lists that go together

-- what goes with what stands at a place of the first list, or of the second
pub zip_at : {X Y : Type 0} (R : X → Y → Type 0) (xs : List X) (ys : List Y) → AllZip R xs ys → (k : ℕ) (x : X) → slice_get xs k ≡ Some x → (y : Y) × (slice_get ys k ≡ Some y) × R x y
zip_at R [] ys zip k x at = absurd cc
zip_at R (z ∷ xs) [] zip k x at = absurd zip
zip_at R (z ∷ xs) (y ∷ ys) zip zero x at = let same : z ≡ x = cc in (y, refl, subst (λ w. R w y) same zip.0)
zip_at R (z ∷ xs) (y ∷ ys) zip (suc k) x at = zip_at R xs ys zip.1 k x at

-- where the values of a function are cut, so is the list
pub map_split : {X Y : Type 0} (f : X → Y) (xs : List X) (before : List Y) (y : Y) (after : List Y) → map f xs ≡ before ++ y ∷ after → (left : List X) × (x : X) × (right : List X) × (xs ≡ left ++ x ∷ right) × (map f left ≡ before) × (f x ≡ y)
map_split f [] [] y after is = absurd cc
map_split f (x ∷ xs) [] y after is = ([], x, xs, refl, refl, cc)
map_split f [] (z ∷ before) y after is = absurd cc
map_split f (x ∷ xs) (z ∷ before) y after is =
    let rest : map f xs ≡ before ++ y ∷ after = cc in
    let first : f x ≡ z = cc in
    let (left, w, right, cut, front, at) = map_split f xs before y after rest in
    (x ∷ left, w, right, (λ i. x ∷ cut i), (λ i. first i ∷ front i), at)
