-- Times never fall, and what waits is due within the greatest delay.
use Rattle.ncl_sim.proofs.Terms.{AreWithin, Bool, ComesFirst, DelaysData, Fired, IsNext, IsTimely, Item, List, None, Option, PipelineData, Some, State, [], ap, append-nil, append_assoc, arith, cases_Bool, cond-false, cond-true, delay_of, due_after, due_from, due_next, enabled, eqb, false, inl, inr, item_number, last_time, length, length-append, look, none-some, popped, refl, reset, rises, same_Some, state_after, step, subst, sym, true, ℕ, ◌*◌, ◌++◌, ◌+◌, ◌∙◌, ◌∷◌, ◌≡◌, ◌≤◌, ◌⊎◌}
use Rattle.ncl_sim.proofs.Looks.{due-looked, look-off}

pub last_time-more : (time : ℕ) (steps : List Fired) (f : Fired) → last_time time (steps ++ f ∷ []) ≡ f.time
last_time-more time [] f = refl
last_time-more time (g ∷ steps) f = last_time-more g.time steps f

pub not-after : (p : PipelineData) (f : Fired) (due : ℕ) (item : Item) → ComesFirst p f due item → f.time ≤ due
not-after p f due item (inl earlier) = omega arith
not-after p f due item (inr same) = let e : f.time ≡ due = same.0 in omega arith

-- what the look gives began just now, or waited
pub fresh_or_old : (p : PipelineData) (d : DelaysData) (s : State) (item : Item) (time due : ℕ) (own : Bool) (waits : Option ℕ) → look p d s item time (popped own waits) ≡ Some due → (time + delay_of d item (rises p s.value item) ≡ due) ⊎ (waits ≡ Some due)
fresh_or_old p d s item time due own waits is =
    elim (cases_Bool (enabled p s item)) [
      | inl on ↦ by_own own waits (sym (cond-true (enabled p s item) (due_next p d s item false time (popped own waits)) None on) ∙ is)
      | inr off ↦ absurd (none-some due (sym (look-off p d s item time (popped own waits) off) ∙ is))
    ]
  where
    by_own : (own : Bool) (waits : Option ℕ) → due_next p d s item false time (popped own waits) ≡ Some due → (time + delay_of d item (rises p s.value item) ≡ due) ⊎ (waits ≡ Some due)
    by_own true waits e = inl (same_Some (time + delay_of d item (rises p s.value item)) due e)
    by_own false None e = inl (same_Some (time + delay_of d item (rises p s.value item)) due e)
    by_own false (Some old) e = inr e

module _ (p : PipelineData) (d : DelaysData) (most : ℕ) (within : AreWithin d most) (offered : List (List Bool)) where
  pub timely-start : IsTimely p d most offered []
  timely-start = record {
    last = omega arith;
    dues = λ item due is.
        elim (cases_Bool (enabled p (reset p offered) item)) [
          | inl on ↦
              let same : 0 + delay_of d item (rises p (reset p offered).value item) ≡ due =
              same_Some (0 + delay_of d item (rises p (reset p offered).value item)) due (sym (cond-true (enabled p (reset p offered) item) (due_from p d (reset p offered) item 0) None on) ∙ is) in
              let few : delay_of d item (rises p (reset p offered).value item) ≤ most = within item (rises p (reset p offered).value item) in
              (omega arith, omega (arith, same, few))
          | inr off ↦ absurd (none-some due (sym (cond-false (enabled p (reset p offered) item) (due_from p d (reset p offered) item 0) None off) ∙ is))
        ];
  }

  pub timely-more : (steps : List Fired) (f : Fired) → IsTimely p d most offered steps → IsNext p d offered steps f → IsTimely p d most offered (steps ++ f ∷ [])
  timely-more steps f is next =
      let last : last_time 0 (steps ++ f ∷ []) ≡ f.time = last_time-more 0 steps f in
      let (later, soon) = is.dues f.item f.time next.due in
      let long : length (steps ++ f ∷ []) ≡ length steps + 1 = length-append steps (f ∷ []) in
      let more : (length steps + 1) * most ≡ length steps * most + most = omega arith in
      let all : length (steps ++ f ∷ []) * most ≡ length steps * most + most = ap (λ n. n * most) long ∙ more in
      record {
        last = omega (arith, last, soon, is.last, all);
        dues = λ item due is_due.
            elim (fresh_or_old p d (step p (state_after p offered steps) f.item) item f.time due (eqb (item_number p f.item) (item_number p item)) (due_after p d offered steps item) (sym (due-looked p d offered steps f item) ∙ is_due)) [
              | inl fresh ↦
                  let few : delay_of d item (rises p (step p (state_after p offered steps) f.item).value item) ≤ most = within item (rises p (step p (state_after p offered steps) f.item).value item) in
                  (omega (arith, last, fresh), omega (arith, last, fresh, few))
              | inr old ↦
                  let (up, down) = is.dues item due old in
                  let first : f.time ≤ due = not-after p f due item (next.first item due old) in
                  (omega (arith, last, first), omega (arith, last, down, later))
            ];
      }

  -- so it is for each beginning of a list in which each entry is next
  timely-rest : (before steps : List Fired) → IsTimely p d most offered before → ((front rest : List Fired) (f : Fired) → before ++ steps ≡ front ++ f ∷ rest → IsNext p d offered front f) → IsTimely p d most offered (before ++ steps)
  timely-rest before [] is next = subst (IsTimely p d most offered) (sym (append-nil before)) is
  timely-rest before (f ∷ steps) is next =
      let split : (before ++ f ∷ []) ++ steps ≡ before ++ f ∷ steps = append_assoc before (f ∷ []) steps in
      subst (IsTimely p d most offered) split
      (timely-rest (before ++ f ∷ []) steps (timely-more before f is (next before steps f refl)) (λ front rest g e. next front rest g (sym split ∙ e)))

  pub timely : (steps : List Fired) → ((front rest : List Fired) (f : Fired) → steps ≡ front ++ f ∷ rest → IsNext p d offered front f) → IsTimely p d most offered steps
  timely steps next = timely-rest [] steps timely-start next
