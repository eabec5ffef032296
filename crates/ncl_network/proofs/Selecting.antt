-- What a mask keeps.
use Rattle.ncl_network.proofs.Terms.{All, All-cons, All-head, All-nil, All-tail, Bool, List, [], add-one, add-zero, ap, arith, cond, enumerate_from, false, get_or, length, map, map-append, refl, select, suc, sum_by, sum_by-cons, sym, take, true, zero, ℕ, ◌++◌, ◌+◌, ◌<◌, ◌∙◌, ◌∷◌, ◌≡◌, ◌≤◌}

-- one item more
next_item : {X : Type 0} (mask : List Bool) (xs : List X) (i : ℕ) (x : X) → i < length mask → i < length xs → x ≡ get_or xs i x → select (take (suc i) mask) (take (suc i) xs) ≡ select (take i mask) (take i xs) ++ cond (get_or mask i false) (x ∷ []) []
next_item [] xs i x in_mask in_xs is = absurd (omega arith)
next_item (kept ∷ mask) [] i x in_mask in_xs is = absurd (omega arith)
next_item (true ∷ mask) (y ∷ xs) zero x in_mask in_xs is = ap (λ z. z ∷ []) (sym is)
next_item (false ∷ mask) (y ∷ xs) zero x in_mask in_xs is = refl
next_item (true ∷ mask) (y ∷ xs) (suc i) x in_mask in_xs is = ap (λ l. y ∷ l) (next_item mask xs i x (omega arith) (omega arith) is)
next_item (false ∷ mask) (y ∷ xs) (suc i) x in_mask in_xs is = next_item mask xs i x (omega arith) (omega arith) is

pub select_more : {X : Type 0} (mask : List Bool) (xs : List X) (i : ℕ) (x : X) → i < length mask → i < length xs → x ≡ get_or xs i x → select (take (i + 1) mask) (take (i + 1) xs) ≡ select (take i mask) (take i xs) ++ cond (get_or mask i false) (x ∷ []) []
select_more mask xs i x in_mask in_xs is = rw add-one (next_item mask xs i x in_mask in_xs is)

pub select-map : {X Y : Type 0} (f : X → Y) (mask : List Bool) (xs : List X) → select mask (map f xs) ≡ map f (select mask xs)
select-map f [] xs = refl
select-map f (kept ∷ mask) [] = refl
select-map f (true ∷ mask) (x ∷ xs) = ap (λ l. f x ∷ l) (select-map f mask xs)
select-map f (false ∷ mask) (x ∷ xs) = select-map f mask xs

-- of lists of one length as many items are kept
pub length-select : {X Y : Type 0} (mask : List Bool) (xs : List X) (ys : List Y) → length xs ≡ length ys → length (select mask xs) ≡ length (select mask ys)
length-select [] xs ys same = refl
length-select (kept ∷ mask) [] [] same = refl
length-select (kept ∷ mask) [] (y ∷ ys) same = absurd (omega arith)
length-select (kept ∷ mask) (x ∷ xs) [] same = absurd (omega arith)
length-select (true ∷ mask) (x ∷ xs) (y ∷ ys) same = ap suc (length-select mask xs ys (omega arith))
length-select (false ∷ mask) (x ∷ xs) (y ∷ ys) same = length-select mask xs ys (omega arith)

pub length-select-le : {X : Type 0} (mask : List Bool) (xs : List X) → length (select mask xs) ≤ length xs
length-select-le [] xs = omega arith
length-select-le (kept ∷ mask) [] = omega arith
length-select-le (true ∷ mask) (x ∷ xs) = omega (arith, length-select-le mask xs)
length-select-le (false ∷ mask) (x ∷ xs) = omega (arith, length-select-le mask xs)

pub All-select : {X : Type 0} (P : X → Type 0) (mask : List Bool) (xs : List X) → All P xs → All P (select mask xs)
All-select P [] xs all = All-nil P
All-select P (kept ∷ mask) [] all = All-nil P
All-select P (true ∷ mask) (x ∷ xs) all = All-cons P x (select mask xs) (All-head P x xs all) (All-select P mask xs (All-tail P x xs all))
All-select P (false ∷ mask) (x ∷ xs) all = All-select P mask xs (All-tail P x xs all)

-- a sum over what is kept, each term of which is no more than before
pub sum_by-select-le : {X Y : Type 0} (f : X → ℕ) (g : Y → ℕ) (h : X → Y) → ((x : X) → g (h x) ≤ f x) → (mask : List Bool) (xs : List X) → sum_by g (map h (select mask xs)) ≤ sum_by f xs
sum_by-select-le f g h less [] xs = omega arith
sum_by-select-le f g h less (kept ∷ mask) [] = omega arith
sum_by-select-le f g h less (true ∷ mask) (x ∷ xs) =
    omega (arith, sum_by-cons g (h x) (map h (select mask xs)), sum_by-cons f x xs, less x, sum_by-select-le f g h less mask xs)
sum_by-select-le f g h less (false ∷ mask) (x ∷ xs) =
    omega (arith, sum_by-cons f x xs, sum_by-select-le f g h less mask xs)

-- a mask that a test of places and items makes
pub get_or-test : {X : Type 0} (test : ℕ × X → Bool) (a : ℕ) (xs : List X) (k : ℕ) (x : X) → k < length xs → get_or xs k x ≡ x → get_or (map test (enumerate_from a xs)) k false ≡ test (a + k, x)
get_or-test test a [] k x within is = absurd (omega arith)
get_or-test test a (y ∷ xs) zero x within is = λ i. test (sym (add-zero a) i, is i)
get_or-test test a (y ∷ xs) (suc k) x within is =
    get_or-test test (a + 1) xs k x (omega arith) is ∙ ap (λ n. test (n, x)) (omega arith)

pub All-select-test : {X : Type 0} (P : X → Type 0) (test : ℕ × X → Bool) → ((pair : ℕ × X) → test pair ≡ true → P pair.1) → (a : ℕ) (xs : List X) → All P (select (map test (enumerate_from a xs)) xs)
All-select-test P test holds a [] = All-nil P
All-select-test P test holds a (x ∷ xs) =
    elim (test (a, x)) as (λ b. (test (a, x) ≡ b) → All P (cond b (x ∷ select (map test (enumerate_from (a + 1) xs)) xs) (select (map test (enumerate_from (a + 1) xs)) xs))) [
      | true ↦ λ e. All-cons P x (select (map test (enumerate_from (a + 1) xs)) xs) (holds (a, x) e) (All-select-test P test holds (a + 1) xs)
      | false ↦ λ e. All-select-test P test holds (a + 1) xs
    ] refl

-- one item more at the end
push_item : {X : Type 0} (mask : List Bool) (xs : List X) (i : ℕ) (x : X) → length xs ≡ i → i < length mask → select (take (suc i) mask) (xs ++ x ∷ []) ≡ select (take i mask) xs ++ cond (get_or mask i false) (x ∷ []) []
push_item [] xs i x count within = absurd (omega arith)
push_item (kept ∷ mask) [] (suc i) x count within = absurd (omega arith)
push_item (kept ∷ mask) (y ∷ xs) zero x count within = absurd (omega arith)
push_item (true ∷ mask) [] zero x count within = refl
push_item (false ∷ mask) [] zero x count within = refl
push_item (true ∷ mask) (y ∷ xs) (suc i) x count within = ap (λ l. y ∷ l) (push_item mask xs i x (omega arith) (omega arith))
push_item (false ∷ mask) (y ∷ xs) (suc i) x count within = push_item mask xs i x (omega arith) (omega arith)

pub select_push : {X : Type 0} (mask : List Bool) (xs : List X) (i : ℕ) (x : X) → length xs ≡ i → i < length mask → select (take (i + 1) mask) (xs ++ x ∷ []) ≡ select (take i mask) xs ++ cond (get_or mask i false) (x ∷ []) []
select_push mask xs i x count within = rw add-one (push_item mask xs i x count within)

pub part_more : {X Y : Type 0} (f : X → Y) (mask : List Bool) (xs : List X) (i : ℕ) (x : X) (part new : List Y) → i ≡ length xs → i < length mask → part ≡ map f (select (take i mask) xs) → new ≡ part ++ cond (get_or mask i false) (f x ∷ []) [] → new ≡ map f (select (take (i + 1) mask) (xs ++ x ∷ []))
part_more f mask xs i x part new count within before e =
    e ∙ ap (λ l. l ++ cond (get_or mask i false) (f x ∷ []) []) before ∙ joined (get_or mask i false) (select (take i mask) xs)
    ∙ sym (ap (map f) (select_push mask xs i x (sym count) within))
  where
    joined : (kept : Bool) (items : List _) → map f items ++ cond kept (f x ∷ []) [] ≡ map f (items ++ cond kept (x ∷ []) [])
    joined true items = sym (map-append f items (x ∷ []))
    joined false items = sym (map-append f items [])
