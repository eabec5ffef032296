-- The first that is there, and what is found where nothing is.
use Rattle.ncl_verdict.proofs.Terms.{Bool, List, Member, Member-map, None, Option, Some, Verdict, [], ap, cases_Bool, cond, false, find, first_of, here, inl, inr, map, member_cases, refl, subst, sym, there, unwrap_or, ◌∙◌, ◌∷◌, ◌≡◌}
use Rattle.ncl_verdict.specs.declared.verdict.Verdict.TheVariants as verdict

-- where nothing is first, no answer is there
pub first_of-none : (answers : List (Option Verdict)) → first_of answers ≡ None → (answer : Option Verdict) → Member answer answers → answer ≡ None
first_of-none [] none answer m = elim m [ ]
first_of-none (None ∷ answers) none answer here = refl
first_of-none (None ∷ answers) none answer (there m) = first_of-none answers none answer m
first_of-none (Some v ∷ answers) none answer m = absurd cc

pub none_of : {X : Type 0} (f : X → Option Verdict) (xs : List X) → first_of (map f xs) ≡ None → (x : X) → Member x xs → f x ≡ None
none_of f xs none x m = first_of-none (map f xs) none (f x) (Member-map f x m)

-- where nothing is found, no item passes
pub find-none : {X : Type 0} (test : X → Bool) (xs : List X) → find test xs ≡ None → (x : X) → Member x xs → test x ≡ false
find-none test [] none x m = elim m [ ]
find-none test (y ∷ xs) none x m =
    elim (cases_Bool (test y)) [
      | inl passes ↦ absurd (let found : Some y ≡ None = sym (ap (λ b. cond b (Some y) (find test xs)) passes) ∙ none in cc)
      | inr fails ↦
          let rest : find test xs ≡ None = sym (ap (λ b. cond b (Some y) (find test xs)) fails) ∙ none in
          elim (member_cases x y xs m) [
            | inl first ↦ subst (λ z. test z ≡ false) first fails
            | inr n ↦ find-none test xs rest x n
          ]
    ]

-- an answer that isn't Accepted
abbrev pub Refuses : Option Verdict → Type 0
Refuses answer = answer ≡ Some verdict.Accepted → ⊥

pub map-refuses : {X : Type 0} (f : X → Option Verdict) → ((x : X) → Refuses (f x)) → (xs : List X) → Refuses (first_of (map f xs))
map-refuses f each [] = λ e. absurd cc
map-refuses f each (x ∷ xs) = by_first (f x) (each x) (map f xs) (map-refuses f each xs)
  where
    by_first : (answer : Option Verdict) → Refuses answer → (answers : List (Option Verdict)) → Refuses (first_of answers) → Refuses (first_of (answer ∷ answers))
    by_first None first answers rest = rest
    by_first (Some v) first answers rest = first

-- where what isn't Accepted is, it is the answer
pub unwrap-refuses : (answer : Option Verdict) → Refuses answer → unwrap_or answer verdict.Accepted ≡ verdict.Accepted → answer ≡ None
unwrap-refuses None refuses e = refl
unwrap-refuses (Some v) refuses e = absurd (refuses (ap Some e))
