-- Tests: of truth values, of entries that may be missing, and of all members of a list.
use Rattle.ncl_base.proofs.Terms.{All-append, All-cons, All-contains, All-head, All-nil, All-tail, AllPairs, AllPairs-cons, Bool, List, None, Option, Some, [], and_parts, ap, arith, both_ways, cases_eq, common_steps, eqb-true, false, inl, inr, length, list_all, list_any, map, nat_eq, ne_eqb, not, option_or, or_parts, position_or_len, refl, rules, slice_get, subst, sym, true, ℕ, ◌++◌, ◌||◌, ◌↔◌, ◌∙◌, ◌∷◌, ◌≡◌, ◌⊎◌}
use Rattle.std.specs.Prelude.{All, IsTrue}
use Rattle.ncl_base.proofs.Lists.{pairs-head, pairs-tail}
use Rattle.ncl_base.proofs.Members.{Member, here, there, Contains-from_Member, Contains-from_slice_get, All-from_members, member_from_list_any}

-- ---- truth values

-- two tests that imply one another are one
pub same_from_both : (a b : Bool) → (a ≡ true → b ≡ true) → (b ≡ true → a ≡ true) → a ≡ b
same_from_both true b to from = sym (to refl)
same_from_both false true to from = from refl
same_from_both false false to from = refl

pub or-assoc : (a b c : Bool) → ((a || b) || c) ≡ (a || (b || c))
or-assoc true b c = refl
or-assoc false b c = refl

-- what a test says where it passes
pub from_test : {P : Type 0} (test : Bool) → IsTrue test ↔ P → test ≡ true → P
from_test true iff passes = iff.0 (search rules)
from_test false iff passes = absurd cc

-- numbers that don't differ are one
pub same_unless : (x y : ℕ) (differ : Bool) → differ ≡ not (nat_eq x y) → differ ≡ false → x ≡ y
same_unless x y differ tells fails = elim (cases_eq x y) [ inl same ↦ same | inr other ↦ absurd (both_ways differ fails (tells ∙ ap not (ne_eqb x y other))) ]

-- ---- entries that may be missing

-- where neither of two is there
pub option_or-none : {X : Type 0} (a b : Option X) → option_or a b ≡ None → (a ≡ None) × (b ≡ None)
option_or-none None b none = (refl, none)
option_or-none (Some x) b none = absurd cc

-- ---- all members of a list

pub All-at : {X : Type 0} (P : X → Type 0) (xs : List X) → All P xs → (k : ℕ) (x : X) → slice_get xs k ≡ Some x → P x
All-at P xs all k x at = All-contains P xs x all (Contains-from_slice_get xs k x at)

pub All-member : {X : Type 0} (P : X → Type 0) (xs : List X) → All P xs → (x : X) → Member x xs → P x
All-member P xs all x m = All-contains P xs x all (Contains-from_Member x m)

-- of two lists put together
pub All-left : {X : Type 0} (P : X → Type 0) (xs ys : List X) → All P (xs ++ ys) → All P xs
All-left P [] ys all = All-nil P
All-left P (x ∷ xs) ys all = All-cons P x xs (All-head P x (xs ++ ys) all) (All-left P xs ys (All-tail P x (xs ++ ys) all))

pub All-right : {X : Type 0} (P : X → Type 0) (xs ys : List X) → All P (xs ++ ys) → All P ys
All-right P [] ys all = all
All-right P (x ∷ xs) ys all = All-right P xs ys (All-tail P x (xs ++ ys) all)

pub AllPairs-append : {X : Type 0} (R : X → X → Type 0) (xs ys : List X) → AllPairs R xs → AllPairs R ys → ((x y : X) → Member x xs → Member y ys → R x y) → AllPairs R (xs ++ ys)
AllPairs-append R [] ys first second between = second
AllPairs-append R (x ∷ xs) ys first second between =
    AllPairs-cons R x (xs ++ ys)
    (All-append (R x) xs ys (All-from_members (R x) xs (pairs-head R x xs first)) (All-from_members (R x) ys (λ y. between x y here)))
    (AllPairs-append R xs ys (pairs-tail R x xs first) second (λ z y m. between z y (there m)))

-- a member of a list that passes
pub list_all-member : {X : Type 0} (test : X → Bool) (xs : List X) → list_all test xs ≡ true → (x : X) → Member x xs → test x ≡ true
list_all-member test [] all x m = elim m [ ]
list_all-member test (y ∷ ys) all x here = (and_parts (test y) (list_all test ys) all).0
list_all-member test (y ∷ ys) all x (there m) = list_all-member test ys (and_parts (test y) (list_all test ys) all).1 x m

-- where none passes, the first that does stands past the end
pub position_or_len-none : {X : Type 0} (test : X → Bool) (xs : List X) → list_any test xs ≡ false → position_or_len test xs ≡ length xs
position_or_len-none test [] none = refl
position_or_len-none test (x ∷ xs) none = let both = or_parts (test x) (list_any test xs) none in grind (arith, common_steps, both.0, position_or_len-none test xs both.1)

-- whether a number stands in a list
pub stands_or_not : (xs : List ℕ) (x : ℕ) → ((list_any (nat_eq x) xs ≡ true) × Member x xs) ⊎ (list_any (nat_eq x) xs ≡ false)
stands_or_not xs x = by (list_any (nat_eq x) xs) refl
  where
    by : (b : Bool) → list_any (nat_eq x) xs ≡ b → ((list_any (nat_eq x) xs ≡ true) × Member x xs) ⊎ (list_any (nat_eq x) xs ≡ false)
    by true e = let (y, m, at) = member_from_list_any (nat_eq x) xs e in inl (e, subst (λ z. Member z xs) (sym (eqb-true x y at)) m)
    by false e = inr e

-- ---- functions at a list

-- that agree at the members
pub map-same : {X Y : Type 0} (f g : X → Y) (xs : List X) → ((x : X) → Member x xs → f x ≡ g x) → map f xs ≡ map g xs
map-same f g [] same = refl
map-same f g (x ∷ xs) same = let first = same x here in let rest = map-same f g xs (λ y m. same y (there m)) in λ k. first k ∷ rest k
