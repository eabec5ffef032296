-- The laws of members of a list.
pub use Rattle.ncl_base.proofs.Terms.{Member, here, there}
use Rattle.ncl_base.proofs.Terms.{AllByRecursion, Bool, Contains, List, Some, [], ap, arith, both_ways, cases_Bool, cond, cond-false, cond-true, cond_both, count_by, false, filter, find, get_or, get_or_from_slice_get, inl, inr, length, list_any, map, or_cases, or_left, or_right, refl, slice_get, slice_get-get_or, slice_get_within, subst, suc, sum_by-cons, sym, true, zero, ℕ, ◌++◌, ◌+◌, ◌<◌, ◌∙◌, ◌∷◌, ◌≡◌, ◌≤◌, ◌⊎◌}
use Rattle.std.specs.Prelude.{All}

-- a member is the first, or a member of the rest
pub member_cases : {X : Type 0} (x y : X) (xs : List X) → Member x (y ∷ xs) → (y ≡ x) ⊎ Member x xs
member_cases x y xs here = inl refl
member_cases x y xs (there m) = inr m

-- the members of two lists joined
pub Member-append_right : {X : Type 0} (xs : List X) {ys : List X} (y : X) → Member y ys → Member y (xs ++ ys)
Member-append_right [] y m = m
Member-append_right (x ∷ xs) y m = there (Member-append_right xs y m)

pub Member-append_left : {X : Type 0} (x : X) {xs : List X} (ys : List X) → Member x xs → Member x (xs ++ ys)
Member-append_left x ys (here {xs = xs}) = here
Member-append_left x ys (there m) = there (Member-append_left x ys m)

pub Member-append_cases : {X : Type 0} (x : X) (xs ys : List X) → Member x (xs ++ ys) → Member x xs ⊎ Member x ys
Member-append_cases x [] ys m = inr m
Member-append_cases x (y ∷ xs) ys here = inl here
Member-append_cases x (y ∷ xs) ys (there m) = elim (Member-append_cases x xs ys m) [ inl some ↦ inl (there some) | inr rest ↦ inr rest ]

-- the values of a function at a list
pub Member-map : {X Y : Type 0} (f : X → Y) (x : X) {xs : List X} → Member x xs → Member (f x) (map f xs)
Member-map f x here = here
Member-map f x (there m) = there (Member-map f x m)

pub member_of_map : {X Y : Type 0} (f : X → Y) (xs : List X) (y : Y) → Member y (map f xs) → (x : X) × Member x xs × (f x ≡ y)
member_of_map f [] y m = elim m [ ]
member_of_map f (x ∷ xs) y here = (x, here, refl)
member_of_map f (x ∷ xs) y (there m) = let (z, n, e) = member_of_map f xs y m in (z, there n, e)

-- a member of those that pass a test is a member, and passes
pub member_of_filter : {X : Type 0} (test : X → Bool) (x : X) (xs : List X) → Member x (filter test xs) → Member x xs × (test x ≡ true)
member_of_filter test x [] m = elim m [ ]
member_of_filter test x (y ∷ ys) m = by (test y) refl (member_of_filter test x ys) m
  where
    by : (b : Bool) → test y ≡ b → (Member x (filter test ys) → Member x ys × (test x ≡ true)) → Member x (cond b (y ∷ filter test ys) (filter test ys)) → Member x (y ∷ ys) × (test x ≡ true)
    by true passes later n = elim (member_cases x y (filter test ys) n) [
      | inl same ↦ (subst (λ z. Member x (z ∷ ys)) (sym same) here, ap test (sym same) ∙ passes)
      | inr rest ↦ (there (later rest).0, (later rest).1)
    ]
    by false fails later n = (there (later n).0, (later n).1)

-- what stands at a place is a member
pub Member-get_or : {X : Type 0} (xs : List X) (place : ℕ) (d : X) → place < length xs → Member (get_or xs place d) xs
Member-get_or [] place d lt = absurd (omega arith)
Member-get_or (x ∷ xs) zero d lt = here
Member-get_or (x ∷ xs) (suc place) d lt = there (Member-get_or xs place d (omega arith))

pub Contains-from_Member : {X : Type 0} (x : X) {xs : List X} → Member x xs → Contains xs x
Contains-from_Member x (here {xs = xs}) = (0, omega arith, refl)
Contains-from_Member x (there {y = y} {xs = xs} m) = let (place, lt, at) = Contains-from_Member x m in (suc place, omega arith, at)

pub Member-from_Contains : {X : Type 0} (xs : List X) (x : X) → Contains xs x → Member x xs
Member-from_Contains [] x (place, lt, at) = absurd (omega arith)
Member-from_Contains (y ∷ xs) x (zero, lt, at) = subst (λ z. Member z (y ∷ xs)) at here
Member-from_Contains (y ∷ xs) x (suc place, lt, at) = there (Member-from_Contains xs x (place, omega arith, at))

-- what holds of each member holds of all
pub All-from_members : {X : Type 0} (P : X → Type 0) (xs : List X) → ((x : X) → Member x xs → P x) → All P xs
All-from_members P xs each place d lt = each (get_or xs place d) (Member-get_or xs place d lt)

pub recursion_from_members : {X : Type 0} (P : X → Type 0) (xs : List X) → ((x : X) → Member x xs → P x) → AllByRecursion P xs
recursion_from_members P [] each = tt
recursion_from_members P (x ∷ xs) each = (each x here, recursion_from_members P xs (λ y m. each y (there m)))

-- a member that passes a test
pub list_any-from_member : {X : Type 0} (test : X → Bool) (x : X) {xs : List X} → Member x xs → test x ≡ true → list_any test xs ≡ true
list_any-from_member test x (here {xs = xs}) passes = or_left (test x) (list_any test xs) passes
list_any-from_member test x (there {y = y} {xs = xs} m) passes = or_right (test y) (list_any test xs) (list_any-from_member test x m passes)

pub member_from_list_any : {X : Type 0} (test : X → Bool) (xs : List X) → list_any test xs ≡ true → (x : X) × Member x xs × (test x ≡ true)
member_from_list_any test [] some = absurd (both_ways false refl some)
member_from_list_any test (y ∷ xs) some =
    elim (or_cases (test y) (list_any test xs) some) [
      | inl first ↦ (y, here, first)
      | inr rest ↦ let (x, m, passes) = member_from_list_any test xs rest in (x, there m, passes)
    ]

-- a member that passes a test is among those that do
pub Member-filter : {X : Type 0} (test : X → Bool) (x : X) {xs : List X} → Member x xs → test x ≡ true → Member x (filter test xs)
Member-filter test x (here {xs = xs}) passes = subst (Member x) (sym (cond-true (test x) (x ∷ filter test xs) (filter test xs) passes)) here
Member-filter test x (there {y = y} {xs = xs} m) passes =
    let later : Member x (filter test xs) = Member-filter test x m passes in
    cond_both (test y) (y ∷ filter test xs) (filter test xs) (Member x) (λ is. there later) (λ is. later)

-- where some elements pass a test, one of them is a member
pub member_from_count : {X : Type 0} (test : X → Bool) (xs : List X) → 1 ≤ count_by test xs → (x : X) × Member x xs × (test x ≡ true)
member_from_count test [] some = absurd (omega arith)
member_from_count test (y ∷ xs) some =
    elim (cases_Bool (test y)) [
      | inl passes ↦ (y, here, passes)
      | inr fails ↦
          let whole : count_by test (y ∷ xs) ≡ cond (test y) 1 0 + count_by test xs = sum_by-cons (λ x. cond (test x) 1 0) y xs in
          let none : cond (test y) (suc zero) zero ≡ zero = cond-false (test y) (suc zero) zero fails in
          let rest : 1 ≤ count_by test xs = omega (arith, whole, none) in
          let (x, m, passes) = member_from_count test xs rest in (x, there m, passes)
    ]

-- where a member passes a test, some elements do
pub count_from_member : {X : Type 0} (test : X → Bool) (x : X) {xs : List X} → Member x xs → test x ≡ true → 1 ≤ count_by test xs
count_from_member test x (here {xs = xs}) passes =
    let whole : count_by test (x ∷ xs) ≡ cond (test x) 1 0 + count_by test xs = sum_by-cons (λ x. cond (test x) 1 0) x xs in
    let one : cond (test x) (suc zero) zero ≡ suc zero = cond-true (test x) (suc zero) zero passes in
    omega (arith, whole, one)
count_from_member test x (there {y = y} {xs = xs} m) passes =
    let whole : count_by test (y ∷ xs) ≡ cond (test y) 1 0 + count_by test xs = sum_by-cons (λ x. cond (test x) 1 0) y xs in
    let later = count_from_member test x m passes in
    omega (arith, whole, later)

-- what stands at a place is contained, and what is contained stands at a place
pub Contains-from_slice_get : {X : Type 0} (xs : List X) (k : ℕ) (x : X) → slice_get xs k ≡ Some x → Contains xs x
Contains-from_slice_get xs k x at = (k, slice_get_within xs k x at, get_or_from_slice_get xs k x x at)

pub slice_get-from_Contains : {X : Type 0} (xs : List X) (x : X) → Contains xs x → (k : ℕ) × (slice_get xs k ≡ Some x)
slice_get-from_Contains xs x (k, lt, at) = (k, slice_get-get_or xs k x lt ∙ ap Some at)

pub slice_get-some : {X : Type 0} (xs : List X) (k : ℕ) → k < length xs → (x : X) × (slice_get xs k ≡ Some x)
slice_get-some [] k lt = absurd (omega arith)
slice_get-some (x ∷ xs) zero lt = (x, refl)
slice_get-some (x ∷ xs) (suc k) lt = slice_get-some xs k (omega arith)

-- where at most one element passes a test, it stands at one place
pub place_is_one : {X : Type 0} (test : X → Bool) (xs : List X) → count_by test xs ≤ 1 → (i j : ℕ) (x y : X) → slice_get xs i ≡ Some x → slice_get xs j ≡ Some y → test x ≡ true → test y ≡ true → i ≡ j
place_is_one test [] few i j x y at_x at_y pass_x pass_y = absurd cc
place_is_one test (z ∷ zs) few zero zero x y at_x at_y pass_x pass_y = refl
place_is_one test (z ∷ zs) few zero (suc j) x y at_x at_y pass_x pass_y =
    let same : z ≡ x = cc in
    let whole : count_by test (z ∷ zs) ≡ cond (test z) 1 0 + count_by test zs = sum_by-cons (λ x. cond (test x) 1 0) z zs in
    let one : cond (test z) (suc zero) zero ≡ suc zero = cond-true (test z) (suc zero) zero (ap test same ∙ pass_x) in
    let other = count_from_member test y (Member-from_Contains zs y (Contains-from_slice_get zs j y at_y)) pass_y in
    absurd (omega (arith, few, whole, one, other))
place_is_one test (z ∷ zs) few (suc i) zero x y at_x at_y pass_x pass_y =
    let same : z ≡ y = cc in
    let whole : count_by test (z ∷ zs) ≡ cond (test z) 1 0 + count_by test zs = sum_by-cons (λ x. cond (test x) 1 0) z zs in
    let one : cond (test z) (suc zero) zero ≡ suc zero = cond-true (test z) (suc zero) zero (ap test same ∙ pass_y) in
    let other = count_from_member test x (Member-from_Contains zs x (Contains-from_slice_get zs i x at_x)) pass_x in
    absurd (omega (arith, few, whole, one, other))
place_is_one test (z ∷ zs) few (suc i) (suc j) x y at_x at_y pass_x pass_y =
    let whole : count_by test (z ∷ zs) ≡ cond (test z) 1 0 + count_by test zs = sum_by-cons (λ x. cond (test x) 1 0) z zs in
    ap suc (place_is_one test zs (omega (arith, few, whole)) i j x y at_x at_y pass_x pass_y)

-- the first element that passes a test
pub first_passing : {X : Type 0} (test : X → Bool) (x : X) {xs : List X} → Member x xs → test x ≡ true → (k : ℕ) × (y : X) × (slice_get xs k ≡ Some y) × (test y ≡ true) × ((j : ℕ) (z : X) → j < k → slice_get xs j ≡ Some z → test z ≡ false)
first_passing test x (here {xs = xs}) passes = (0, x, refl, passes, λ j z lt at. absurd (omega arith))
first_passing {X} test x (there {y = y} {xs = xs} m) passes =
    elim (cases_Bool (test y)) [
      | inl first ↦ (0, y, refl, first, λ j z lt at. absurd (omega arith))
      | inr fails ↦
          let (k, found, at, is, before) = first_passing test x m passes in
          (suc k, found, at, is, earlier k fails before)
    ]
  where
    earlier : (k : ℕ) → test y ≡ false → ((j : ℕ) (z : X) → j < k → slice_get xs j ≡ Some z → test z ≡ false) → (j : ℕ) (z : X) → j < suc k → slice_get (y ∷ xs) j ≡ Some z → test z ≡ false
    earlier k fails before zero z lt at = let same : y ≡ z = cc in subst (λ x. test x ≡ false) same fails
    earlier k fails before (suc j) z lt at = before j z (omega arith) at

-- what is found is a member
pub member-found : {X : Type 0} (test : X → Bool) (xs : List X) (x : X) → find test xs ≡ Some x → Member x xs
member-found test [] x found = absurd cc
member-found test (y ∷ ys) x found = by_first (test y) (member-found test ys x) found
  where
    by_first : (b : Bool) → (find test ys ≡ Some x → Member x ys) → cond b (Some y) (find test ys) ≡ Some x → Member x (y ∷ ys)
    by_first true later found = let same : y ≡ x = cc in subst (λ z. Member z (y ∷ ys)) same here
    by_first false later found = there (later found)
