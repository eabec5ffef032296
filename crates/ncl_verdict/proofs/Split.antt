-- The judgement of stages in two parts, one after the other.
use Rattle.ncl_verdict.proofs.Terms.{Answers, Err, IfOk, List, Memory, None, Ok, Option, Result, Some, StageData, Verdict, [], ap, drop, first_of, get_or, judgement, length, map, of_stage, option_or, refl, stopped_at, sym, take, take-append-drop, take_all, take_more, unwrap_or, ℕ, ◌++◌, ◌+◌, ◌<◌, ◌∙◌, ◌∷◌, ◌≡◌, ◌≢◌, ◌≤◌}
use Rattle.ncl_verdict.specs.declared.verdict.Verdict.TheVariants as verdict
use Rattle.ncl_verdict.proofs.Firsts.{map-refuses, unwrap-refuses}
use Rattle.ncl_verdict.proofs.Sound.{of_stage-refuses}

-- the first of two lists is the first of the first, or else of the second
pub first_of-append : {X : Type 0} (f : X → Option Verdict) (xs ys : List X) → first_of (map f (xs ++ ys)) ≡ option_or (first_of (map f xs)) (first_of (map f ys))
first_of-append f [] ys = refl
first_of-append f (x ∷ xs) ys = by_first (f x) (first_of-append f xs ys)
  where
    by_first : (o : Option Verdict) → first_of (map f (xs ++ ys)) ≡ option_or (first_of (map f xs)) (first_of (map f ys)) → first_of (o ∷ map f (xs ++ ys)) ≡ option_or (first_of (o ∷ map f xs)) (first_of (map f ys))
    by_first None rest = rest
    by_first (Some v) rest = refl

module _ (limit : ℕ) where
  abbrev answer : List StageData → Option Verdict
  answer stages = first_of (map (of_stage (stopped_at limit)) stages)

  -- the judgement of both parts by the answers of each
  split : (front back : List StageData) → judgement limit (front ++ back) ≡ unwrap_or (option_or (answer front) (answer back)) verdict.Accepted
  split front back = ap (λ o. unwrap_or o verdict.Accepted) (first_of-append (of_stage (stopped_at limit)) front back)

  -- where the first part is accepted, the judgement is that of the second
  pub accepted-then : (front back : List StageData) → judgement limit front ≡ verdict.Accepted → judgement limit (front ++ back) ≡ judgement limit back
  accepted-then front back accepted =
      let none : answer front ≡ None = unwrap-refuses (answer front) (map-refuses (of_stage (stopped_at limit)) (of_stage-refuses limit) front) accepted in
      split front back ∙ ap (λ o. unwrap_or (option_or o (answer back)) verdict.Accepted) none

  -- where it isn't, the judgement is that of the first
  pub refused-first : (front back : List StageData) → judgement limit front ≢ verdict.Accepted → judgement limit (front ++ back) ≡ judgement limit front
  refused-first front back refused = split front back ∙ by_answer (answer front) refused
    where
      by_answer : (o : Option Verdict) → unwrap_or o verdict.Accepted ≢ verdict.Accepted → unwrap_or (option_or o (answer back)) verdict.Accepted ≡ unwrap_or o verdict.Accepted
      by_answer None differs = absurd (differs refl)
      by_answer (Some v) differs = refl

  -- where the first part is accepted, an answer to the second is one to the whole
  pub second-answers : (front back : List StageData) → judgement limit front ≡ verdict.Accepted → (r : Result (Option Verdict) Memory) → IfOk r (Answers limit back) → IfOk r (Answers limit (front ++ back))
  second-answers front back accepted (Ok (Some v)) said = said ∙ sym (accepted-then front back accepted)
  second-answers front back accepted (Ok None) said = tt
  second-answers front back accepted (Err memory) said = tt

  -- where it isn't, its judgement is that of the whole
  pub first-answers : (front back : List StageData) (v : Verdict) → v ≢ verdict.Accepted → v ≡ judgement limit front → v ≡ judgement limit (front ++ back)
  first-answers front back v refused said = said ∙ sym (refused-first front back (λ e. refused (said ∙ e)))

  -- where the stages before a place are accepted, and what stands at the place is a stage
  module _ (stages : List StageData) (i : ℕ) (s : StageData) (within : i < length stages) (at : s ≡ get_or stages i s) (so_far : judgement limit (take i stages) ≡ verdict.Accepted) where
    with_stage : judgement limit (take (i + 1) stages) ≡ judgement limit (s ∷ [])
    with_stage = ap (judgement limit) (take_more stages i s within ∙ ap (λ x. take i stages ++ x ∷ []) (sym at)) ∙ accepted-then (take i stages) (s ∷ []) so_far

    -- where it is accepted, so are the stages up to it
    pub accepted-more : judgement limit (s ∷ []) ≡ verdict.Accepted → judgement limit (take (i + 1) stages) ≡ verdict.Accepted
    accepted-more accepted = with_stage ∙ accepted

    -- where it isn't, its judgement is that of all
    pub refused-at : judgement limit (s ∷ []) ≢ verdict.Accepted → judgement limit (s ∷ []) ≡ judgement limit stages
    refused-at refused =
        let first = refused-first (take (i + 1) stages) (drop (i + 1) stages) (λ e. refused (sym with_stage ∙ e)) in
        sym with_stage ∙ sym first ∙ ap (judgement limit) (take-append-drop (i + 1) stages)

  -- where the stages up to the end are accepted, all are
  pub accepted-all : (stages : List StageData) (i : ℕ) → length stages ≤ i → judgement limit (take i stages) ≡ verdict.Accepted → judgement limit stages ≡ verdict.Accepted
  accepted-all stages i end so_far = ap (judgement limit) (sym (take_all i stages end)) ∙ so_far
