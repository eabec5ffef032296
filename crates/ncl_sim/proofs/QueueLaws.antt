-- The events that wait, and the queue that holds them.
pub use Rattle.ncl_sim.proofs.Terms.{All-from_recursion, All-head, All-map, All-permutation, AllByRecursion, ComesBeforeAll, IsBefore, IsFirst, IsPermutation, IsPermutation-cons, IsPermutation-map, IsPermutation-middle, IsPermutation-refl, IsPermutation-sym, IsPermutation-trans, IsQueueOf, List, None, NoneWaits, Option, Reverse, Some, [], all_events, and_from, and_parts, ap, arith, cases_Bool, cond, eq-eqb, eqb, eqb-true, events, inl, inr, length, length_permutation, map, none-some, refl, replicate, rules, set, slice_get, slice_get_within, subst, suc, sum_by, sum_by-IsPermutation, sum_by-append, sum_by-cons, sym, zero, ℕ, ◌&&◌, ◌++◌, ◌+◌, ◌<◌, ◌∙◌, ◌∷◌, ◌≡◌, ◌≢◌}

-- ---- one place of a list changed

pub set-there : {A : Type 0} (xs : List A) (k : ℕ) (x old : A) → slice_get xs k ≡ Some old → slice_get (set xs k x) k ≡ Some x
set-there [] k x old at = absurd (none-some old at)
set-there (y ∷ xs) zero x old at = refl
set-there (y ∷ xs) (suc k) x old at = set-there xs k x old at

pub set-elsewhere : {A : Type 0} (xs : List A) (k j : ℕ) (x : A) → k ≢ j → slice_get (set xs k x) j ≡ slice_get xs j
set-elsewhere [] k j x apart = refl
set-elsewhere (y ∷ xs) zero zero x apart = absurd (apart refl)
set-elsewhere (y ∷ xs) zero (suc j) x apart = refl
set-elsewhere (y ∷ xs) (suc k) zero x apart = refl
set-elsewhere (y ∷ xs) (suc k) (suc j) x apart = set-elsewhere xs k j x (λ e. apart (ap suc e))

further : (j k : ℕ) → j + 1 + k ≡ j + suc k
further j k = omega arith

nearest : (j : ℕ) → j ≡ j + 0
nearest j = omega arith

-- what waits no more leaves the events
pub events-take : (j : ℕ) (waits : List (Option ℕ)) (k due : ℕ) → slice_get waits k ≡ Some (Some due) → IsPermutation (events j waits) ((due, j + k) ∷ events j (set waits k None))
events-take j [] k due at = absurd cc
events-take j (None ∷ waits) zero due at = absurd cc
events-take j (Some now ∷ waits) zero due at =
    let same : now ≡ due = cc in
    subst (λ e. IsPermutation ((now, j) ∷ events (j + 1) waits) (e ∷ events (j + 1) waits)) (λ i. (same i, nearest j i)) (IsPermutation-refl ((now, j) ∷ events (j + 1) waits))
events-take j (None ∷ waits) (suc k) due at =
    subst (λ n. IsPermutation (events (j + 1) waits) ((due, n) ∷ events (j + 1) (set waits k None))) (further j k) (events-take (j + 1) waits k due at)
events-take j (Some now ∷ waits) (suc k) due at =
    let rest : IsPermutation (events (j + 1) waits) ((due, j + suc k) ∷ events (j + 1) (set waits k None)) =
    subst (λ n. IsPermutation (events (j + 1) waits) ((due, n) ∷ events (j + 1) (set waits k None))) (further j k) (events-take (j + 1) waits k due at) in
    IsPermutation-trans ((now, j) ∷ events (j + 1) waits) ((now, j) ∷ (due, j + suc k) ∷ events (j + 1) (set waits k None)) ((due, j + suc k) ∷ (now, j) ∷ events (j + 1) (set waits k None))
    (IsPermutation-cons (now, j) (events (j + 1) waits) ((due, j + suc k) ∷ events (j + 1) (set waits k None)) rest)
    (IsPermutation-middle ((now, j) ∷ []) (due, j + suc k) (events (j + 1) (set waits k None)))

pub events-taken : (waits : List (Option ℕ)) (k due : ℕ) → slice_get waits k ≡ Some (Some due) → IsPermutation (events 0 waits) ((due, k) ∷ events 0 (set waits k None))
events-taken waits k due at =
    let number : 0 + k ≡ k = omega arith in
    subst (λ n. IsPermutation (events 0 waits) ((due, n) ∷ events 0 (set waits k None))) number (events-take 0 waits k due at)

set-back : (waits : List (Option ℕ)) (k due : ℕ) → slice_get waits k ≡ Some None → set (set waits k (Some due)) k None ≡ waits
set-back [] k due at = refl
set-back (now ∷ waits) zero due at = let none : None ≡ now = cc in ap (λ w. w ∷ waits) none
set-back (now ∷ waits) (suc k) due at = ap (λ ws. now ∷ ws) (set-back waits k due at)

-- what begins to wait comes to the events
pub events-put : (waits : List (Option ℕ)) (k due : ℕ) → slice_get waits k ≡ Some None → IsPermutation ((due, k) ∷ events 0 waits) (events 0 (set waits k (Some due)))
events-put waits k due at =
    IsPermutation-sym (events 0 (set waits k (Some due))) ((due, k) ∷ events 0 waits)
    (subst (λ ws. IsPermutation (events 0 (set waits k (Some due))) ((due, k) ∷ events 0 ws)) (set-back waits k due at)
    (events-taken (set waits k (Some due)) k due (set-there waits k (Some due) None at)))

-- each event is of a number that waits
pub record IsWaiting (waits : List (Option ℕ)) (j : ℕ) (e : ℕ × ℕ) : Type 0 where
  pub place : ℕ
  pub number : e.1 ≡ j + place
  pub at : slice_get waits place ≡ Some (Some e.0)

waiting-later : (w : Option ℕ) (waits : List (Option ℕ)) (j : ℕ) (es : List (ℕ × ℕ)) → AllByRecursion (IsWaiting waits (j + 1)) es → AllByRecursion (IsWaiting (w ∷ waits) j) es
waiting-later w waits j [] all = tt
waiting-later w waits j (e ∷ es) all =
    let first : IsWaiting waits (j + 1) e = all.0 in
    (record { place = suc first.place; number = first.number ∙ further j first.place; at = first.at }, waiting-later w waits j es all.1)

events-wait : (j : ℕ) (waits : List (Option ℕ)) → AllByRecursion (IsWaiting waits j) (events j waits)
events-wait j [] = tt
events-wait j (None ∷ waits) = waiting-later None waits j (events (j + 1) waits) (events-wait (j + 1) waits)
events-wait j (Some due ∷ waits) =
    (record { place = 0; number = nearest j; at = refl }, waiting-later (Some due) waits j (events (j + 1) waits) (events-wait (j + 1) waits))

-- so what is taken out of all events waits at its number
pub event-waits : (waits : List (Option ℕ)) (e : ℕ × ℕ) (rest : List (ℕ × ℕ)) → IsPermutation (events 0 waits) (e ∷ rest) → slice_get waits e.1 ≡ Some (Some e.0)
event-waits waits e rest out =
    let waiting : IsWaiting waits 0 e = All-head (IsWaiting waits 0) e rest (All-permutation (IsWaiting waits 0) (events 0 waits) (e ∷ rest) out (All-from_recursion (IsWaiting waits 0) (events 0 waits) (events-wait 0 waits))) in
    let place : waiting.place ≡ e.1 = omega (arith, waiting.number) in
    subst (λ n. slice_get waits n ≡ Some (Some e.0)) place waiting.at

-- ---- an event that stands in front of both of two lists may be left out

abbrev counts : ℕ × ℕ → ℕ × ℕ → ℕ
counts e x = cond (eqb e.0 x.0 && eqb e.1 x.1) 1 0

counts-itself : (e : ℕ × ℕ) → counts e e ≡ 1
counts-itself e = ap (λ b. cond b 1 0) (and_from (eqb e.0 e.0) (eqb e.1 e.1) (eq-eqb e.0 e.0 refl) (eq-eqb e.1 e.1 refl))

found : (e : ℕ × ℕ) (ys : List (ℕ × ℕ)) → 0 < sum_by (counts e) ys → (a : List (ℕ × ℕ)) × ((b : List (ℕ × ℕ)) × (ys ≡ a ++ e ∷ b))
found e [] some = absurd (omega arith)
found e (y ∷ ys) some =
    elim (cases_Bool (eqb e.0 y.0 && eqb e.1 y.1)) [
      | inl same ↦
          let (dues, numbers) = and_parts (eqb e.0 y.0) (eqb e.1 y.1) same in
          let due : y.0 ≡ e.0 = sym (eqb-true e.0 y.0 dues) in
          let number : y.1 ≡ e.1 = sym (eqb-true e.1 y.1 numbers) in
          ([], (ys, λ i. (due i, number i) ∷ ys))
      | inr other ↦
          let none : counts e y ≡ 0 = ap (λ b. cond b 1 0) other in
          let sums : sum_by (counts e) (y ∷ ys) ≡ counts e y + sum_by (counts e) ys = sum_by-cons (counts e) y ys in
          let (a, (b, split)) = found e ys (omega (arith, some, none, sums)) in
          (y ∷ a, (b, ap (λ l. y ∷ l) split))
    ]

same_sums : (xs ys : List (ℕ × ℕ)) → ((f : ℕ × ℕ → ℕ) → sum_by f xs ≡ sum_by f ys) → IsPermutation xs ys
same_sums [] [] sums = IsPermutation-refl []
same_sums [] (y ∷ ys) sums =
    let more : sum_by (λ x. 1) (y ∷ ys) ≡ 1 + sum_by (λ x. 1) ys = sum_by-cons (λ x. 1) y ys in
    let none : 0 ≡ sum_by (λ x. 1) (y ∷ ys) = sums (λ x. 1) in
    absurd (omega (arith, more, none))
same_sums (x ∷ xs) ys sums =
    let own : counts x x ≡ 1 = counts-itself x in
    let more : sum_by (counts x) (x ∷ xs) ≡ counts x x + sum_by (counts x) xs = sum_by-cons (counts x) x xs in
    let total : sum_by (counts x) (x ∷ xs) ≡ sum_by (counts x) ys = sums (counts x) in
    let (a, (b, split)) = found x ys (omega (arith, own, more, total)) in
    let fewer : IsPermutation xs (a ++ b) =
    same_sums xs (a ++ b) (λ f.
    let first : sum_by f (x ∷ xs) ≡ f x + sum_by f xs = sum_by-cons f x xs in
    let all : sum_by f (x ∷ xs) ≡ sum_by f (a ++ x ∷ b) = sums f ∙ ap (sum_by f) split in
    let parts : sum_by f (a ++ x ∷ b) ≡ sum_by f a + sum_by f (x ∷ b) = sum_by-append f a (x ∷ b) in
    let second : sum_by f (x ∷ b) ≡ f x + sum_by f b = sum_by-cons f x b in
    let rest : sum_by f (a ++ b) ≡ sum_by f a + sum_by f b = sum_by-append f a b in
    omega (arith, first, all, parts, second, rest)) in
    subst (IsPermutation (x ∷ xs)) (sym split)
    (IsPermutation-trans (x ∷ xs) (x ∷ (a ++ b)) (a ++ x ∷ b) (IsPermutation-cons x xs (a ++ b) fewer) (IsPermutation-sym (a ++ x ∷ b) (x ∷ (a ++ b)) (IsPermutation-middle a x b)))

pub IsPermutation-cancel : (x : ℕ × ℕ) (xs ys : List (ℕ × ℕ)) → IsPermutation (x ∷ xs) (x ∷ ys) → IsPermutation xs ys
IsPermutation-cancel x xs ys same =
    same_sums xs ys (λ f.
    let left : sum_by f (x ∷ xs) ≡ f x + sum_by f xs = sum_by-cons f x xs in
    let right : sum_by f (x ∷ ys) ≡ f x + sum_by f ys = sum_by-cons f x ys in
    let both : sum_by f (x ∷ ys) ≡ sum_by f (x ∷ xs) = sum_by-IsPermutation f (x ∷ xs) (x ∷ ys) same in
    omega (arith, left, right, both))

-- ---- the queue of an agenda keeps the events of what waits

abbrev event_in : Reverse (ℕ × ℕ) → ℕ × ℕ
event_in e = e.0

no-events : (j n : ℕ) → events j (replicate n None) ≡ []
no-events j zero = refl
no-events j (suc n) = no-events (j + 1) n

-- nothing waits
pub empty-queue : (waits : List (Option ℕ)) (queue : List (Reverse (ℕ × ℕ))) (n : ℕ) → waits ≡ replicate n None → queue ≡ [] → IsQueueOf waits queue
empty-queue waits queue n none empty = record {
  events = subst (λ ws. IsPermutation (events 0 ws) (map event_in queue)) (sym none)
      (subst (λ q. IsPermutation (events 0 (replicate n None)) (map event_in q)) (sym empty)
      (subst (λ es. IsPermutation es []) (sym (no-events 0 n)) (IsPermutation-refl [])));
}

module _ (waits : List (Option ℕ)) (queue : List (Reverse (ℕ × ℕ))) (is : IsQueueOf waits queue) where
  pub empty-none_waits : queue ≡ [] → NoneWaits waits
  empty-none_waits empty k due at =
      let events_are : length (map event_in queue) ≡ length (events 0 waits) = length_permutation (events 0 waits) (map event_in queue) is.events in
      let more : length ((due, k) ∷ events 0 (set waits k None)) ≡ length (events 0 waits) = length_permutation (events 0 waits) ((due, k) ∷ events 0 (set waits k None)) (events-taken waits k due at) in
      let none : length (map event_in queue) ≡ 0 = ap (λ q. length (map event_in q)) empty in
      omega (arith, events_are, more, none)

  -- a number begins to wait
  pub queue-more : (k due : ℕ) (more : List (Reverse (ℕ × ℕ))) → slice_get waits k ≡ Some None → IsPermutation (record { 0 = (due, k) } ∷ queue) more → IsQueueOf (set waits k (Some due)) more
  queue-more k due more at into =
      let e : Reverse (ℕ × ℕ) = record { 0 = (due, k) } in
      record {
        events =
            IsPermutation-trans (events 0 (set waits k (Some due))) ((due, k) ∷ map event_in queue) (map event_in more)
            (IsPermutation-trans (events 0 (set waits k (Some due))) ((due, k) ∷ events 0 waits) ((due, k) ∷ map event_in queue)
            (IsPermutation-sym ((due, k) ∷ events 0 waits) (events 0 (set waits k (Some due))) (events-put waits k due at))
            (IsPermutation-cons (due, k) (events 0 waits) (map event_in queue) is.events))
            (IsPermutation-map event_in (e ∷ queue) more into);
      }

  -- the first event, and what is left without it
  module _ (e : Reverse (ℕ × ℕ)) (rest : List (Reverse (ℕ × ℕ))) (out : IsPermutation queue (e ∷ rest)) where
    taken-out : IsPermutation (events 0 waits) (e.0 ∷ map event_in rest)
    taken-out = IsPermutation-trans (events 0 waits) (map event_in queue) (e.0 ∷ map event_in rest) is.events (IsPermutation-map event_in queue (e ∷ rest) out)

    pub out-waits : slice_get waits e.0.1 ≡ Some (Some e.0.0)
    out-waits = event-waits waits e.0 (map event_in rest) taken-out

    pub queue-rest : IsQueueOf (set waits e.0.1 None) rest
    queue-rest = record {
      events =
          IsPermutation-cancel e.0 (events 0 (set waits e.0.1 None)) (map event_in rest)
          (IsPermutation-trans (e.0 ∷ events 0 (set waits e.0.1 None)) (events 0 waits) (e.0 ∷ map event_in rest)
          (IsPermutation-sym (events 0 waits) (e.0 ∷ events 0 (set waits e.0.1 None)) (events-taken waits e.0.1 e.0.0 out-waits))
          taken-out);
    }

    pub out-first : ComesBeforeAll e queue → IsFirst waits e.0
    out-first before = record {
      here = out-waits;
      first = λ k due at.
          All-head (IsBefore e.0) (due, k) (events 0 (set waits k None))
          (All-permutation (IsBefore e.0) (events 0 waits) ((due, k) ∷ events 0 (set waits k None)) (events-taken waits k due at)
          (All-permutation (IsBefore e.0) (map event_in queue) (events 0 waits) (IsPermutation-sym (events 0 waits) (map event_in queue) is.events)
          (All-map (IsBefore e.0) event_in queue before)));
    }
