-- How many elements of a list pass a test: none or all of them, and what a change of one element makes of it.
use Rattle.ncl_machine.proofs.Terms.{AllPairs, Bool, List, Member, Nets, [], ap, arith, cases_eq, count_of, eq-eqb, false, here, inl, inr, length, list_all, nat_eq, ne_eqb, not, pairs-head, pairs-tail, refl, subst, suc, sym, there, true, with_net, ℕ, ◌&&◌, ◌+◌, ◌∙◌, ◌∷◌, ◌≡◌, ◌≢◌, ◌≤◌}
use Rattle.ncl_machine.proofs.AtWorkLaws.{with_net-elsewhere}
use Rattle.ncl_machine.proofs.LocalNets.{with_net-here}
use Rattle.ncl_machine.proofs.Numbers.{one_if}

pub count-few : {X : Type 0} (test : X → Bool) (xs : List X) → count_of test xs ≤ length xs
count-few test [] = omega arith
count-few test (x ∷ xs) = first (test x) (count-few test xs)
  where
    first : (b : Bool) → count_of test xs ≤ length xs → one_if b + count_of test xs ≤ suc (length xs)
    first true few = omega (arith, few)
    first false few = omega (arith, few)

-- two numbers are equal where their successors are
nat_eq-suc : (m n : ℕ) → nat_eq m n ≡ nat_eq (1 + m) (suc n)
nat_eq-suc m n = elim (cases_eq m n) [
  | inl e ↦ let up : 1 + m ≡ suc n = omega (arith, e) in eq-eqb m n e ∙ sym (eq-eqb (1 + m) (suc n) up)
  | inr apart ↦ ne_eqb m n apart ∙ sym (ne_eqb (1 + m) (suc n) (λ e. apart (omega (arith, e))))
]

-- all pass where as many pass as there are
pub count-all : {X : Type 0} (test : X → Bool) (xs : List X) → list_all test xs ≡ nat_eq (count_of test xs) (length xs)
count-all test [] = refl
count-all test (x ∷ xs) = first (test x) (count-all test xs) (count-few test xs)
  where
    first : (b : Bool) → list_all test xs ≡ nat_eq (count_of test xs) (length xs) → count_of test xs ≤ length xs
        → (b && list_all test xs) ≡ nat_eq (one_if b + count_of test xs) (suc (length xs))
    first true rest few = rest ∙ nat_eq-suc (count_of test xs) (length xs)
    first false rest few = sym (ne_eqb (0 + count_of test xs) (suc (length xs)) (λ e. omega (arith, e, few)))

-- none passes where the count is 0
pub count-none : {X : Type 0} (test : X → Bool) (xs : List X) → list_all (λ (x : X). not (test x)) xs ≡ nat_eq (count_of test xs) 0
count-none test [] = refl
count-none test (x ∷ xs) = first (test x) (count-none test xs)
  where
    first : (b : Bool) → list_all (λ (x : _). not (test x)) xs ≡ nat_eq (count_of test xs) 0
        → (not b && list_all (λ (x : _). not (test x)) xs) ≡ nat_eq (one_if b + count_of test xs) 0
    first true rest = sym (ne_eqb (1 + count_of test xs) 0 (λ e. omega (arith, e)))
    first false rest = rest ∙ let same : count_of test xs ≡ 0 + count_of test xs = omega arith in ap (λ n. nat_eq n 0) same

-- tests that agree at the members pass as many
pub count-same : {X : Type 0} (test other : X → Bool) (xs : List X) → ((x : X) → Member x xs → other x ≡ test x) → count_of other xs ≡ count_of test xs
count-same test other [] same = refl
count-same test other (x ∷ xs) same =
    ap (λ b. one_if b + count_of other xs) (same x here) ∙ ap (λ n. one_if (test x) + n) (count-same test other xs (λ y m. same y (there m)))

-- where a member passes, the count isn't 0, and where none passes it is
pub count-some : {X : Type 0} (test : X → Bool) (xs : List X) (x : X) → Member x xs → test x ≡ true → 1 ≤ count_of test xs
count-some test [] x m passes = elim m [ ]
count-some test (y ∷ xs) x here passes = let e = ap (λ b. one_if b + count_of test xs) passes in omega (arith, e)
count-some test (y ∷ xs) x (there m) passes = let rest = count-some test xs x m passes in omega (arith, rest)

pub count-nothing : {X : Type 0} (test : X → Bool) (xs : List X) → ((x : X) → Member x xs → test x ≡ false) → count_of test xs ≡ 0
count-nothing test [] none = refl
count-nothing test (x ∷ xs) none = let e = ap (λ b. one_if b + count_of test xs) (none x here) in let rest = count-nothing test xs (λ y m. none y (there m)) in omega (arith, e, rest)

-- nets that differ: one of them that rises makes the count greater by one, one that falls less by one
pub count-rises : (v : Nets) (net : ℕ) (nets : List ℕ) → AllPairs (λ x y. x ≢ y) nets → Member net nets → v net ≡ false
    → count_of (with_net v net true) nets ≡ suc (count_of v nets)
count-rises v net [] differ m low = elim m [ ]
count-rises v net (x ∷ nets) differ here low =
    let risen = ap (λ b. one_if b + count_of (with_net v net true) nets) (with_net-here v net true) in
    let before = ap (λ b. one_if b + count_of v nets) low in
    let rest = count-same v (with_net v net true) nets (λ x m. with_net-elsewhere v net x true (pairs-head (λ x y. x ≢ y) net nets differ x m)) in
    omega (arith, risen, before, rest)
count-rises v net (x ∷ nets) differ (there m) low =
    let apart : net ≢ x = λ e. pairs-head (λ x y. x ≢ y) x nets differ net m (sym e) in
    let same = ap (λ b. one_if b + count_of (with_net v net true) nets) (with_net-elsewhere v net x true apart) in
    let rest = count-rises v net nets (pairs-tail (λ x y. x ≢ y) x nets differ) m low in
    omega (arith, same, rest)

pub count-falls : (v : Nets) (net : ℕ) (nets : List ℕ) → AllPairs (λ x y. x ≢ y) nets → Member net nets → v net ≡ true
    → suc (count_of (with_net v net false) nets) ≡ count_of v nets
count-falls v net nets differ m high =
    let up = count-rises (with_net v net false) net nets differ m (with_net-here v net false) in
    let back = count-same v (with_net (with_net v net false) net true) nets (λ x n. elim (cases_eq net x) [
      | inl e ↦ subst (λ y. with_net (with_net v net false) net true y ≡ v y) e (with_net-here (with_net v net false) net true ∙ sym high)
      | inr apart ↦ with_net-elsewhere (with_net v net false) net x true apart ∙ with_net-elsewhere v net x false apart
    ]) in
    omega (arith, up, back)
