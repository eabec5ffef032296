-- Lists as they grow at their end, maps with gaps, and how long lists are.
use Rattle.ncl_base.proofs.Terms.{All-contains, AllByRecursion, Bool, Contains, Decides-eqb, IsDistinct-from_AllPairs, List, None, Option, Some, [], ap, arith, cond, cons_option, drop, drop_more, eqb, false, false≢true, filter_map, filter_map-append, get_or, get_or_append_left, get_or_push, inl, inr, is_member, is_member-Decides, is_some, le-length_from_below, length, length-append, length-le_from_distinct_below, length-take-le, length_push, map, map_more, option_or, position_from, refl, slice_get, subst, suc, sum_by, sum_by-cons, sym, take, take-append-drop, take_more, true, zero, ℕ, ◌++◌, ◌+◌, ◌<◌, ◌∙◌, ◌∷◌, ◌≡◌, ◌≢◌, ◌≤◌, ◌⊎◌}
use Rattle.std.specs.List.{All, AllPairs}
use Rattle.ncl_base.proofs.Members.{Contains-from_slice_get, slice_get-from_Contains}

-- what stands in a list with one more element stands in the list, or is that element
pub split_push : {X : Type 0} (xs : List X) (y : X) (before : List X) (x : X) (rest : List X) → xs ++ y ∷ [] ≡ before ++ x ∷ rest → ((before ≡ xs) × (x ≡ y)) ⊎ ((left : List X) × (xs ≡ before ++ x ∷ left))
split_push [] y [] x rest e = inl (refl, cc)
split_push (z ∷ xs) y [] x rest e = let same : z ≡ x = cc in inr (xs, ap (λ w. w ∷ xs) same)
split_push [] y (b ∷ before) x rest e =
    let short : [] ≡ before ++ x ∷ rest = cc in
    absurd (omega (arith, ap length short, length-append before (x ∷ rest)))
split_push (z ∷ xs) y (b ∷ before) x rest e =
    let tail : xs ++ y ∷ [] ≡ before ++ x ∷ rest = cc in
    let head : z ≡ b = cc in
    elim (split_push xs y before x rest tail) [
      | inl (front, last) ↦ inl (cc, last)
      | inr (left, inside) ↦ inr (left, cc)
    ]

-- each element is related to the last one
pub pair_last : {X : Type 0} (R : X → X → Type 0) (xs : List X) (y : X) → AllPairs R (xs ++ y ∷ []) → (k : ℕ) (d : X) → k < length xs → R (get_or xs k d) y
pair_last R xs y pairs k d lt =
    let last : length xs < length (xs ++ y ∷ []) = omega (arith, length_push xs y) in
    let both : R (get_or (xs ++ y ∷ []) k d) (get_or (xs ++ y ∷ []) (length xs) d) = pairs k (length xs) d lt last in
    subst (λ z. R (get_or xs k d) z) (get_or_push xs y d (length xs) refl)
    (subst (λ z. R z (get_or (xs ++ y ∷ []) (length xs) d)) (get_or_append_left xs (y ∷ []) d k lt) both)

-- what relates the elements of a list relates those of its front
pub pair_front : {X : Type 0} (R : X → X → Type 0) (xs : List X) (y : X) → AllPairs R (xs ++ y ∷ []) → AllPairs R xs
pair_front R xs y pairs i j d lt in_xs =
    let in_all : j < length (xs ++ y ∷ []) = omega (arith, length_push xs y) in
    let both : R (get_or (xs ++ y ∷ []) i d) (get_or (xs ++ y ∷ []) j d) = pairs i j d lt in_all in
    let in_front : i < length xs = omega arith in
    subst (λ z. R (get_or xs i d) z) (get_or_append_left xs (y ∷ []) d j in_xs)
    (subst (λ z. R z (get_or (xs ++ y ∷ []) j d)) (get_or_append_left xs (y ∷ []) d i in_front) both)

-- numbers below a number that differ are no more than it
pub no_more_than : (xs : List ℕ) (n : ℕ) → AllPairs (λ i j. i ≢ j) xs → All (λ i. i < n) xs → length xs ≤ n
no_more_than xs n once below = length-le_from_distinct_below xs n (IsDistinct-from_AllPairs Decides-eqb xs once) (λ q e. All-contains (λ i. i < n) xs q below ((is_member-Decides Decides-eqb xs q).0 e))

-- numbers below a number, each once, are as many as it
pub as_many_as : (xs : List ℕ) (n : ℕ) → AllPairs (λ i j. i ≢ j) xs → All (λ i. i < n) xs → ((i : ℕ) → i < n → Contains xs i) → length xs ≡ n
as_many_as xs n once below every = omega (arith, no_more_than xs n once below, le-length_from_below xs n (λ i lt. (is_member-Decides Decides-eqb xs i).1 (every i lt)))

-- a list is what stands before a place, what stands there, and what stands after it
pub cut_at : {X : Type 0} (xs : List X) (k : ℕ) (d : X) → k < length xs → xs ≡ take k xs ++ get_or xs k d ∷ drop (k + 1) xs
cut_at xs k d within = sym (take-append-drop k xs) ∙ ap (λ l. take k xs ++ l) (drop_more xs k d within)

-- a list with an element is what stands before that element, it, and what stands after it
pub split_at : {X : Type 0} (xs : List X) (x : X) → Contains xs x → (before : List X) × (rest : List X) × (xs ≡ before ++ x ∷ rest)
split_at xs x (k, lt, at) = (take k xs, drop (k + 1) xs, cut_at xs k x lt ∙ ap (λ z. take k xs ++ z ∷ drop (k + 1) xs) at)

-- a list is empty or has a last element
pub last_of : {X : Type 0} (xs : List X) → (xs ≡ []) ⊎ ((front : List X) × (y : X) × (xs ≡ front ++ y ∷ []))
last_of [] = inl refl
last_of (x ∷ xs) =
    elim (last_of xs) [
      | inl none ↦ inr ([], x, ap (λ l. x ∷ l) none)
      | inr (front, y, at) ↦ inr (x ∷ front, y, ap (λ l. x ∷ l) at)
    ]

-- a list has an element, or it doesn't
pub cases_contains : (xs : List ℕ) (x : ℕ) → Contains xs x ⊎ (Contains xs x → ⊥)
cases_contains xs x =
    let member = is_member-Decides Decides-eqb xs x in
    elim (is_member eqb xs x) as (λ b. is_member eqb xs x ≡ b → Contains xs x ⊎ (Contains xs x → ⊥)) [
      | true ↦ λ yes. inl (member.0 yes)
      | false ↦ λ no. inr (λ there. false≢true (sym no ∙ member.1 there))
    ] refl

first_or_later : {X Y : Type 0} (h : X → Option Y) (x : X) (xs : List X) (y z : Y) → h x ≡ Some z
    → (Contains (filter_map h xs) y → (w : X) × Contains (x ∷ xs) w × (h w ≡ Some y))
    → Contains (z ∷ filter_map h xs) y → (w : X) × Contains (x ∷ xs) w × (h w ≡ Some y)
first_or_later h x xs y z e later (zero, lt, at) = (x, (0, omega arith, refl), cc)
first_or_later h x xs y z e later (suc k, lt, at) = later (k, omega arith, at)

-- what a map with gaps gives comes from an element
pub Contains-filter_map : {X Y : Type 0} (h : X → Option Y) (xs : List X) (y : Y) → Contains (filter_map h xs) y → (x : X) × Contains xs x × (h x ≡ Some y)
Contains-filter_map h [] y (k, lt, at) = absurd (omega arith)
Contains-filter_map {X} {Y} h (x ∷ xs) y found =
    let Source : Type 0 = (z : X) × Contains (x ∷ xs) z × (h z ≡ Some y) in
    let later : Contains (filter_map h xs) y → Source = λ rest.
    let (z, (k, lt, at), gives) = Contains-filter_map h xs y rest in (z, (suc k, omega arith, at), gives) in
    elim (h x) as (λ o. h x ≡ o → Contains (cons_option o (filter_map h xs)) y → Source) [
      | None ↦ λ e rest. later rest
      | Some z ↦ λ e rest. first_or_later h x xs y z e later rest
    ] refl found

-- what a map with gaps gives of an element is among what it gives
pub Contains-filter_map_of : {X Y : Type 0} (h : X → Option Y) (xs : List X) (x : X) (y : Y) → Contains xs x → h x ≡ Some y → Contains (filter_map h xs) y
Contains-filter_map_of h [] x y (k, lt, at) e = absurd (omega arith)
Contains-filter_map_of {X} {Y} h (w ∷ xs) x y (zero, lt, at) e =
    let gives : h w ≡ Some y = ap h at ∙ e in
    subst (λ o. Contains (cons_option o (filter_map h xs)) y) (sym gives) (0, omega arith, refl)
Contains-filter_map_of {X} {Y} h (w ∷ xs) x y (suc k, lt, at) e =
    let (n, within, found) = Contains-filter_map_of h xs x y (k, omega arith, at) e in
    elim (h w) as (λ o. Contains (cons_option o (filter_map h xs)) y) [ None ↦ (n, within, found) | Some z ↦ (suc n, omega arith, found) ]

-- a sum over the values of a function
pub sum_by-map : {X Y : Type 0} (f : Y → ℕ) (g : X → Y) (xs : List X) → sum_by f (map g xs) ≡ sum_by (λ x. f (g x)) xs
sum_by-map f g [] = refl
sum_by-map f g (x ∷ xs) = sum_by-cons f (g x) (map g xs) ∙ ap (λ rest. f (g x) + rest) (sum_by-map f g xs) ∙ sym (sum_by-cons (λ x. f (g x)) x xs)

-- where each element counts at least one, a list is no longer than what its elements count
pub length-le-sum_by : {X : Type 0} (f : X → ℕ) → ((x : X) → 1 ≤ f x) → (xs : List X) → length xs ≤ sum_by f xs
length-le-sum_by f one [] = omega arith
length-le-sum_by f one (x ∷ xs) = omega (arith, sum_by-cons f x xs, one x, length-le-sum_by f one xs)

-- what stands at a place of a list with one more element
pub at_push : {X : Type 0} (xs : List X) (y : X) (k : ℕ) (x : X) → slice_get (xs ++ y ∷ []) k ≡ Some x → (slice_get xs k ≡ Some x) ⊎ (y ≡ x)
at_push [] y zero x at = inr cc
at_push [] y (suc k) x at = absurd cc
at_push (z ∷ xs) y zero x at = inl at
at_push (z ∷ xs) y (suc k) x at = at_push xs y k x at

pub Contains-last : {X : Type 0} (xs : List X) (y : X) → Contains (xs ++ y ∷ []) y
Contains-last xs y = (length xs, omega (arith, length_push xs y), get_or_push xs y y (length xs) refl)

pub from_push : {X : Type 0} (xs : List X) (y x : X) → Contains (xs ++ y ∷ []) x → Contains xs x ⊎ (y ≡ x)
from_push xs y x among =
    let (k, at) = slice_get-from_Contains (xs ++ y ∷ []) x among in
    elim (at_push xs y k x at) [ inl old ↦ inl (Contains-from_slice_get xs k x old) | inr new ↦ inr new ]

-- the place of the first element that passes a test, with one more element
pub position_from-push : {X : Type 0} (test : X → Bool) (i : ℕ) (xs : List X) (x : X) → position_from test i (xs ++ x ∷ []) ≡ option_or (position_from test i xs) (cond (test x) (Some (i + length xs)) None)
position_from-push test i [] x = elim (test x) as (λ b. cond b (Some i) None ≡ option_or None (cond b (Some (i + 0)) None)) [ true ↦ ap Some (omega arith) | false ↦ refl ]
position_from-push test i (y ∷ xs) x =
    let e : i + 1 + length xs ≡ i + length (y ∷ xs) = omega arith in
    elim (test y) as (λ b. cond b (Some i) (position_from test (i + 1) (xs ++ x ∷ [])) ≡ option_or (cond b (Some i) (position_from test (i + 1) xs)) (cond (test x) (Some (i + length (y ∷ xs))) None))
    [ true ↦ refl | false ↦ position_from-push test (i + 1) xs x ∙ ap (λ n. option_or (position_from test (i + 1) xs) (cond (test x) (Some n) None)) e ]

-- the first k + 1 elements: the place among the first k, or else the last of them where it passes
pub position_from-more : {X : Type 0} (test : X → Bool) (xs : List X) (k : ℕ) (d : X) → k < length xs → position_from test 0 (take (k + 1) xs) ≡ option_or (position_from test 0 (take k xs)) (cond (test (get_or xs k d)) (Some k) None)
position_from-more test xs k d h =
    let e : 0 + length (take k xs) ≡ k = omega (arith, length-take-le k xs (omega arith)) in
    ap (position_from test 0) (take_more xs k d h) ∙ position_from-push test 0 (take k xs) (get_or xs k d)
    ∙ ap (λ n. option_or (position_from test 0 (take k xs)) (cond (test (get_or xs k d)) (Some n) None)) e

-- where an element passes, a first place is found
pub position_from-found : {X : Type 0} (test : X → Bool) (i : ℕ) (xs : List X) (j : ℕ) (d : X) → j < length xs → test (get_or xs j d) ≡ true → (k : ℕ) × (position_from test i xs ≡ Some k)
position_from-found test i [] j d within passes = absurd (omega arith)
position_from-found test i (x ∷ xs) zero d within passes = (i, ap (λ b. cond b (Some i) (position_from test (i + 1) xs)) passes)
position_from-found test i (x ∷ xs) (suc j) d within passes =
    let (k, at) = position_from-found test (i + 1) xs j d (omega arith) passes in
    elim (test x) as (λ b. (n : ℕ) × (cond b (Some i) (position_from test (i + 1) xs) ≡ Some n)) [ true ↦ (i, refl) | false ↦ (k, at) ]

-- a place that is found stays, where what comes after passes only if one is found
pub option_or_stays : (found : Option ℕ) (passes : Bool) (k : ℕ) → (passes ≡ true → is_some found ≡ true) → option_or found (cond passes (Some k) None) ≡ found
option_or_stays None true k h = cc (h refl)
option_or_stays None false k h = refl
option_or_stays (Some x) passes k h = refl

-- what a map with gaps gives of the first k + 1 elements
pub filter_map-more : {X Y : Type 0} (h : X → Option Y) (xs : List X) (k : ℕ) (d : X) → k < length xs → filter_map h (take (k + 1) xs) ≡ filter_map h (take k xs) ++ cons_option (h (get_or xs k d)) []
filter_map-more h xs k d within = ap (filter_map h) (take_more xs k d within) ∙ filter_map-append h (take k xs) (get_or xs k d ∷ [])

-- what a map with gaps gives has what each of its answers has
pub All-filter_map : {X Y : Type 0} (h : X → Option Y) (P : Y → Type 0) → ((x : X) (y : Y) → h x ≡ Some y → P y) → (xs : List X) → AllByRecursion P (filter_map h xs)
All-filter_map h P has [] = tt
All-filter_map h P has (x ∷ xs) =
    elim (h x) as (λ found. h x ≡ found → AllByRecursion P (cons_option found (filter_map h xs))) [
      | None ↦ λ e. All-filter_map h P has xs
      | Some y ↦ λ e. (has x y e, All-filter_map h P has xs)
    ] refl

-- a loop that pushes what a function gives of each element
pub map_push : {X Y : Type 0} (f : X → Y) (xs : List X) (k : ℕ) (d : X) (made new : List Y) (y : Y) → k < length xs → made ≡ map f (take k xs) → y ≡ f (get_or xs k d) → new ≡ made ++ y ∷ [] → new ≡ map f (take (k + 1) xs)
map_push f xs k d made new y within so_far is pushed = pushed ∙ ap (λ front. front ++ y ∷ []) so_far ∙ ap (λ z. map f (take k xs) ++ z ∷ []) is ∙ sym (map_more f xs k d within)
