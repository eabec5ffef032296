-- A timed run is there, and where it is stopped.
use Rattle.ncl_sim.proofs.Terms.{Bool, DelaysData, End, Ends, Fire, Fired, GoesOn, Hazard, IsLost, IsNext, IsQuiet, IsRunFrom, IsStopped, IsTimedRun, Item, List, LosesNone, Lower, Nets, None, Option, Over, Pair, PipelineData, Quiet, Raise, Ready, Run, Some, State, Take, Taken, TraceData, [], after, after_lower, and_from, and_parts, ap, arith, both_ways, candidate, cases_eq, cases_lt, cond, current_rails, due_after, due_at, enabled, eqb, eqb-false, false, false_from_ne_true, if◌then◌else◌, inl, inr, is_take, item_number, items_in, last_time, length, length-append, length-map, list_all, lost, map, most_steps, ne_eqb, none-some, not, not-true, not_from_false, number_count, over, put_at, quiet, refl, reset, same_Some, same_from_push, slice_get, state_after, step, subst, suc, sym, takes_in, true, zero, ℕ, ◌&&◌, ◌++◌, ◌+◌, ◌<◌, ◌∙◌, ◌∷◌, ◌≡◌, ◌≤◌, ◌⊎◌, Tells}
pub use Rattle.ncl_sim.proofs.Oneness.{candidate-number, candidate_of, enabled_from_due, nothing_apart, number_within, one_run, some_after}

-- ---- the least of finitely many dues: by the due, and of one due by the number

-- of the numbers below n, the number k comes first, with a due
pub record IsLeast (due : ℕ → Option ℕ) (n k time : ℕ) : Type 0 where
  pub within : k < n
  pub at : due k ≡ Some time
  pub first : (j other : ℕ) → j < n → due j ≡ Some other → (time < other) ⊎ ((time ≡ other) × (k ≤ j))

abbrev pub HasLeast : (ℕ → Option ℕ) → ℕ → Type 0
HasLeast due n = (k : ℕ) × ((time : ℕ) × IsLeast due n k time)

abbrev pub HasNone : (ℕ → Option ℕ) → ℕ → Type 0
HasNone due n = (j : ℕ) → j < n → due j ≡ None

-- one number more comes first, or the one that came first still does
least-last : (due : ℕ → Option ℕ) (n now : ℕ) → due n ≡ Some now → ((j other : ℕ) → j < n → due j ≡ Some other → now < other) → IsLeast due (suc n) n now
least-last due n now e later = record {
  within = omega arith;
  at = e;
  first = λ j other lt due_j. elim (cases_eq j n) [
    | inl same ↦ inr (same_Some now other (sym e ∙ ap due (sym same) ∙ due_j), omega arith)
    | inr apart ↦ inl (later j other (omega arith) due_j)
  ];
}

least-kept : (due : ℕ → Option ℕ) (n k time : ℕ) → IsLeast due n k time → ((other : ℕ) → due n ≡ Some other → time ≤ other) → IsLeast due (suc n) k time
least-kept due n k time is behind =
    let before : k < n = is.within in
    record {
      within = omega arith;
      at = is.at;
      first = λ j other lt due_j. elim (cases_eq j n) [
        | inl same ↦
            let late = behind other (ap due (sym same) ∙ due_j) in
            elim (cases_eq time other) [ inl one ↦ inr (one, omega arith) | inr two ↦ inl (omega (arith, late)) ]
        | inr apart ↦ is.first j other (omega arith) due_j
      ];
    }

least-more : (due : ℕ → Option ℕ) (n : ℕ) (here : Option ℕ) → due n ≡ here → HasLeast due n ⊎ HasNone due n → HasLeast due (suc n) ⊎ HasNone due (suc n)
least-more due n None e (inr none) = inr (λ j lt. elim (cases_eq j n) [ inl same ↦ ap due same ∙ e | inr apart ↦ none j (omega arith) ])
least-more due n None e (inl (k, (time, is))) = inl (k, (time, least-kept due n k time is (λ other at. absurd (none-some other (sym e ∙ at)))))
least-more due n (Some now) e (inr none) = inl (n, (now, least-last due n now e (λ j other lt at. absurd (none-some other (sym (none j lt) ∙ at)))))
least-more due n (Some now) e (inl (k, (time, is))) =
    elim (cases_lt now time) [
      | inl less ↦ inl (n, (now, least-last due n now e (λ j other lt at. elim (is.first j other lt at) [ inl later ↦ omega arith | inr (same, above) ↦ omega arith ])))
      | inr not_less ↦ inl (k, (time, least-kept due n k time is (λ other at. let one : now ≡ other = same_Some now other (sym e ∙ at) in omega arith)))
    ]

pub least_due : (due : ℕ → Option ℕ) (n : ℕ) → HasLeast due n ⊎ HasNone due n
least_due due zero = inr (λ j lt. absurd (omega arith))
least_due due (suc n) = least-more due n (due n) refl (least_due due n)

-- ---- lists with a last element

abbrev pub HasLast : List Fired → Type 0
HasLast steps = (before : List Fired) × ((last : Fired) × (steps ≡ before ++ last ∷ []))

pub last_of : (steps : List Fired) → (steps ≡ []) ⊎ HasLast steps
last_of [] = inl refl
last_of (f ∷ steps) = elim (last_of steps) [
  | inl none ↦ inr ([], (f, ap (λ l. f ∷ l) none))
  | inr (before, (last, split)) ↦ inr (f ∷ before, (last, ap (λ l. f ∷ l) split))
]

-- what stands in a list with one more element is that element, or stood there before
pub split-more : (steps : List Fired) (f : Fired) (before rest : List Fired) (g : Fired) → steps ++ f ∷ [] ≡ before ++ g ∷ rest → ((steps ≡ before) × (f ≡ g)) ⊎ ((fewer : List Fired) × (steps ≡ before ++ g ∷ fewer))
split-more [] f [] rest g e = inl (refl, cc)
split-more [] f (b ∷ before) rest g e = let none : [] ≡ before ++ g ∷ rest = cc in absurd (nothing_apart before rest g none)
split-more (s ∷ steps) f [] rest g e = let head : s ≡ g = cc in inr (steps, ap (λ h. h ∷ steps) head)
split-more (s ∷ steps) f (b ∷ before) rest g e =
    let head : s ≡ b = cc in
    let tail : steps ++ f ∷ [] ≡ before ++ g ∷ rest = cc in
    elim (split-more steps f before rest g tail) [
      | inl (same, last) ↦ inl ((λ i. head i ∷ same i), last)
      | inr (fewer, split) ↦ inr (fewer, (λ i. head i ∷ split i))
    ]

-- ---- whether something was lost

abbrev pub is_lost_at : PipelineData → List (List Bool) → List Fired → List Fired → Fired → ℕ → Bool
is_lost_at p offered steps before last k =
    not (eqb (item_number p last.item) k)
    && (enabled p (state_after p offered before) (candidate p (state_after p offered before) k)
    && not (enabled p (state_after p offered steps) (candidate p (state_after p offered before) k)))

abbrev pub zero_where : Bool → Option ℕ
zero_where true = Some 0
zero_where false = None

where_zero : (b : Bool) (n : ℕ) → zero_where b ≡ Some n → b ≡ true
where_zero true n e = refl
where_zero false n e = absurd cc

-- what was lost shows at its number
lost_shows : (p : PipelineData) (offered : List (List Bool)) (steps before : List Fired) (last : Fired) → steps ≡ before ++ last ∷ [] → (other : Item) → IsLost p offered steps other → is_lost_at p offered steps before last (item_number p other) ≡ true
lost_shows p offered steps before last split other is =
    let (front, end) = same_from_push is.before before is.last last (sym is.split ∙ split) in
    let was : enabled p (state_after p offered before) other ≡ true = subst (λ b. enabled p (state_after p offered b) other ≡ true) front is.was in
    let same : candidate p (state_after p offered before) (item_number p other) ≡ other = candidate_of p (state_after p offered before) other was in
    let apart : eqb (item_number p last.item) (item_number p other) ≡ false = ne_eqb (item_number p last.item) (item_number p other) (λ e. is.other (ap (λ (f : Fired). item_number p f.item) end ∙ e)) in
    let gone : enabled p (state_after p offered steps) (candidate p (state_after p offered before) (item_number p other)) ≡ false = ap (enabled p (state_after p offered steps)) same ∙ is.gone in
    and_from _ _ (not_from_false _ apart) (and_from _ _ (ap (enabled p (state_after p offered before)) same ∙ was) (not_from_false _ gone))

-- and what shows was lost
shown_lost : (p : PipelineData) (offered : List (List Bool)) (steps before : List Fired) (last : Fired) → steps ≡ before ++ last ∷ [] → (k : ℕ) → k < number_count p → is_lost_at p offered steps before last k ≡ true → IsLost p offered steps (candidate p (state_after p offered before) k)
shown_lost p offered steps before last split k within shows =
    let number : item_number p (candidate p (state_after p offered before) k) ≡ k = candidate-number p (state_after p offered before) k within in
    let (apart, kept) = and_parts (not (eqb (item_number p last.item) k)) (enabled p (state_after p offered before) (candidate p (state_after p offered before) k) && not (enabled p (state_after p offered steps) (candidate p (state_after p offered before) k))) shows in
    let (was, gone) = and_parts (enabled p (state_after p offered before) (candidate p (state_after p offered before) k)) (not (enabled p (state_after p offered steps) (candidate p (state_after p offered before) k))) kept in
    record {
      before = before;
      last = last;
      split = split;
      other = λ e. eqb-false (item_number p last.item) k (not-true _ apart) (e ∙ number);
      was = was;
      gone = not-true _ gone;
    }

abbrev pub LosesFirst : PipelineData → List (List Bool) → List Fired → Type 0
LosesFirst p offered steps = (item : Item) × (IsLost p offered steps item × ((other : Item) → IsLost p offered steps other → item_number p item ≤ item_number p other))

pub lost_or_none : (p : PipelineData) (offered : List (List Bool)) (steps : List Fired) → LosesFirst p offered steps ⊎ LosesNone p offered steps
lost_or_none p offered steps = elim (last_of steps) [
  | inl none ↦ inr (λ item is. nothing_apart is.before [] is.last (sym none ∙ is.split))
  | inr (before, (last, split)) ↦ elim (least_due (λ k. zero_where (is_lost_at p offered steps before last k)) (number_count p)) [
    | inl (k, (time, least)) ↦
        let shows : is_lost_at p offered steps before last k ≡ true = where_zero (is_lost_at p offered steps before last k) time least.at in
        let number : item_number p (candidate p (state_after p offered before) k) ≡ k = candidate-number p (state_after p offered before) k least.within in
        inl (
          candidate p (state_after p offered before) k,
          (
            shown_lost p offered steps before last split k least.within shows,
            λ other is.
                let shown : is_lost_at p offered steps before last (item_number p other) ≡ true = lost_shows p offered steps before last split other is in
                let within : item_number p other < number_count p = number_within p (state_after p offered is.before) other is.was in
                elim (least.first (item_number p other) 0 within (ap zero_where shown)) [
                  | inl less ↦ absurd (omega arith)
                  | inr (same, least_number) ↦ omega (arith, number, least_number)
                ],
          ),
        )
    | inr nowhere ↦ inr (λ item is.
        let within : item_number p item < number_count p = number_within p (state_after p offered is.before) item is.was in
        none-some 0 (sym (nowhere (item_number p item) within) ∙ ap zero_where (lost_shows p offered steps before last split item is)))
  ]
]

-- ---- what is next

-- the due of an item stands at its number
pub due_shows : (p : PipelineData) (d : DelaysData) (offered : List (List Bool)) (steps : List Fired) (item : Item) → enabled p (state_after p offered steps) item ≡ true → due_at p d offered steps (item_number p item) ≡ due_after p d offered steps item
due_shows p d offered steps item on = ap (due_after p d offered steps) (candidate_of p (state_after p offered steps) item on)

abbrev pub first_due : PipelineData → List (List Bool) → List Fired → ℕ → ℕ → Fired
first_due p offered steps k at = record { time = at; item = candidate p (state_after p offered steps) k }

pub first_is_next : (p : PipelineData) (d : DelaysData) (offered : List (List Bool)) (steps : List Fired) (k time : ℕ) → IsLeast (due_at p d offered steps) (number_count p) k time → IsNext p d offered steps (first_due p offered steps k time)
first_is_next p d offered steps k time least =
    let number : item_number p (candidate p (state_after p offered steps) k) ≡ k = candidate-number p (state_after p offered steps) k least.within in
    record {
      due = least.at;
      first = λ other due is.
          let on : enabled p (state_after p offered steps) other ≡ true = enabled_from_due p d offered steps other due is in
          elim (least.first (item_number p other) due (number_within p (state_after p offered steps) other on) (due_shows p d offered steps other on ∙ is)) [
            | inl earlier ↦ inl earlier
            | inr (same, below) ↦ inr (same, omega (arith, number, below))
          ];
    }

pub none_is_quiet : (p : PipelineData) (d : DelaysData) (offered : List (List Bool)) (steps : List Fired) → HasNone (due_at p d offered steps) (number_count p) → IsQuiet p (state_after p offered steps)
none_is_quiet p d offered steps none item =
    false_from_ne_true _ (λ on.
    let (due, is) = some_after p d offered steps item on in
    none-some due (sym (none (item_number p item) (number_within p (state_after p offered steps) item on)) ∙ due_shows p d offered steps item on ∙ is))

-- ---- the steps so far

pub run-more : (p : PipelineData) (s : State) (steps : List Fired) (f : Fired) → IsRunFrom p s (items_in steps) → enabled p (after p s (items_in steps)) f.item ≡ true → IsRunFrom p s (items_in (steps ++ f ∷ []))
run-more p s [] f run on = (on, tt)
run-more p s (g ∷ steps) f run on = (run.0, run-more p (step p s g.item) steps f run.1 on)

-- none lost, something enabled and steps to spare: no end
no_end : (p : PipelineData) (offered : List (List Bool)) (steps : List Fired) (end : End) (item : Item) → LosesNone p offered steps → (length steps ≡ most_steps p offered → ⊥) → enabled p (state_after p offered steps) item ≡ true → Ends p offered steps end → ⊥
no_end p offered steps end item none spare on (lost x is least) = none x is
no_end p offered steps end item none spare on (quiet none_y off) = both_ways _ (off item) on
no_end p offered steps end item none spare on (over none_y many x on_y) = spare many

pub goes_on-more : (p : PipelineData) (d : DelaysData) (offered : List (List Bool)) (steps : List Fired) (f : Fired) → GoesOn p d offered steps → LosesNone p offered steps → (length steps ≡ most_steps p offered → ⊥) → IsNext p d offered steps f → GoesOn p d offered (steps ++ f ∷ [])
goes_on-more p d offered steps f is none spare is_next =
    let on : enabled p (state_after p offered steps) f.item ≡ true = enabled_from_due p d offered steps f.item f.time is_next.due in
    record {
      run = run-more p (reset p offered) steps f is.run on;
      next = λ before rest g e. elim (split-more steps f before rest g e) [
        | inl (same, last) ↦ subst (λ h. IsNext p d offered before h) last (subst (λ l. IsNext p d offered l f) same is_next)
        | inr (fewer, split) ↦ is.next before fewer g split
      ];
      goes_on = λ before rest g end e ends. elim (split-more steps f before rest g e) [
        | inl (same, last) ↦ no_end p offered steps end f.item none spare on (subst (λ l. Ends p offered l end) (sym same) ends)
        | inr (fewer, split) ↦ is.goes_on before fewer g end split ends
      ];
    }

-- ---- what is delivered

abbrev pub taken_of : List ℕ → List Pair → List Taken
taken_of [] pairs = []
taken_of (time ∷ times) [] = []
taken_of (time ∷ times) (pair ∷ pairs) = record { time = time; pair = pair } ∷ taken_of times pairs

taken_of-times : (times : List ℕ) (pairs : List Pair) → length times ≡ length pairs → map (λ (x : Taken). x.time) (taken_of times pairs) ≡ times
taken_of-times [] pairs e = refl
taken_of-times (time ∷ times) [] e = absurd (omega arith)
taken_of-times (time ∷ times) (pair ∷ pairs) e = ap (λ l. time ∷ l) (taken_of-times times pairs (omega arith))

taken_of-pairs : (times : List ℕ) (pairs : List Pair) → length times ≡ length pairs → map (λ (x : Taken). x.pair) (taken_of times pairs) ≡ pairs
taken_of-pairs [] [] e = refl
taken_of-pairs [] (pair ∷ pairs) e = absurd (omega arith)
taken_of-pairs (time ∷ times) [] e = absurd (omega arith)
taken_of-pairs (time ∷ times) (pair ∷ pairs) e = ap (λ l. pair ∷ l) (taken_of-pairs times pairs (omega arith))

abbrev pub one_where : Bool → ℕ
one_where true = 1
one_where false = 0

takes_in-more : (f : Fired) (steps : List Fired) → length (takes_in (f ∷ steps)) ≡ one_where (is_take f.item) + length (takes_in steps)
takes_in-more f steps = elim (is_take f.item) as (λ b. length (cond b (f ∷ takes_in steps) (takes_in steps)) ≡ one_where b + length (takes_in steps)) [ true ↦ omega arith | false ↦ omega arith ]

delivered_by_lower : (p : PipelineData) (s : State) (v : Nets) → (after_lower p s v).delivered ≡ s.delivered
delivered_by_lower p s v =
    elim (list_all (λ net. not (v net)) (current_rails p s)) as (λ b. (if b then record s { value = v; falling = false; done = s.done + 1 } else record s { value = v }).delivered ≡ s.delivered) [ true ↦ refl | false ↦ refl ]

delivered_by_step : (p : PipelineData) (s : State) (item : Item) → length (step p s item).delivered ≡ length s.delivered + one_where (is_take item)
delivered_by_step p s (Fire cell) = omega arith
delivered_by_step p s (Raise bit) = omega arith
delivered_by_step p s (Lower bit) = ap length (delivered_by_lower p s (put_at s.value (slice_get (current_rails p s) bit) false)) ∙ sum
  where
    sum : length s.delivered ≡ length s.delivered + 0
    sum = omega arith
delivered_by_step p s Take = omega (arith, length-append {A = Pair})
delivered_by_step p s Ready = omega arith

pub delivered_by_steps : (p : PipelineData) (s : State) (steps : List Fired) → length (after p s (items_in steps)).delivered ≡ length s.delivered + length (takes_in steps)
delivered_by_steps p s [] = omega arith
delivered_by_steps p s (f ∷ steps) =
    let rest : length (after p (step p s f.item) (items_in steps)).delivered ≡ length (step p s f.item).delivered + length (takes_in steps) = delivered_by_steps p (step p s f.item) steps in
    let here : length (step p s f.item).delivered ≡ length s.delivered + one_where (is_take f.item) = delivered_by_step p s f.item in
    omega (arith, rest, here, takes_in-more f steps)

-- ---- the run

abbrev pub HasRun : PipelineData → DelaysData → List (List Bool) → Type 0
HasRun p d offered = (t : TraceData) × IsTimedRun p d offered t

ended : (p : PipelineData) (d : DelaysData) (offered : List (List Bool)) (steps : List Fired) (end : End) → GoesOn p d offered steps → Ends p offered steps end → HasRun p d offered
ended p d offered steps end is ends =
    let none : 0 + length (takes_in steps) ≡ length (takes_in steps) = omega arith in
    let times : List ℕ = map (λ (f : Fired). f.time) (takes_in steps) in
    let pairs : List Pair = (state_after p offered steps).delivered in
    let as_many : length (map (λ (f : Fired). f.time) (takes_in steps)) ≡ length (state_after p offered steps).delivered = length-map (takes_in steps) (λ (f : Fired). f.time) ∙ sym (delivered_by_steps p (reset p offered) steps ∙ none) in (
      record { steps = steps; delivered = taken_of times pairs; end = end },
      record { run = is.run; next = is.next; goes_on = is.goes_on; ends = ends; times = taken_of-times times pairs as_many; pairs = taken_of-pairs times pairs as_many },
    )

run_from : (p : PipelineData) (d : DelaysData) (offered : List (List Bool)) (fuel : ℕ) (steps : List Fired) → fuel + length steps ≡ most_steps p offered → GoesOn p d offered steps → HasRun p d offered
run_from p d offered zero steps left is =
    let many : length steps ≡ most_steps p offered = omega (arith, left) in
    elim (lost_or_none p offered steps) [
      | inl (item, (is_lost, least)) ↦ ended p d offered steps (Hazard item (last_time 0 steps)) is (lost item is_lost least)
      | inr none ↦ elim (least_due (due_at p d offered steps) (number_count p)) [
        | inl (k, (time, least)) ↦ ended p d offered steps Over is (over none many (candidate p (state_after p offered steps) k) (enabled_from_due p d offered steps _ time least.at))
        | inr nowhere ↦ ended p d offered steps Quiet is (quiet none (none_is_quiet p d offered steps nowhere))
      ]
    ]
run_from p d offered (suc fuel) steps left is = elim (lost_or_none p offered steps) [
  | inl (item, (is_lost, least)) ↦ ended p d offered steps (Hazard item (last_time 0 steps)) is (lost item is_lost least)
  | inr none ↦ elim (least_due (due_at p d offered steps) (number_count p)) [
    | inl (k, (time, least)) ↦
        let more : length (steps ++ first_due p offered steps k time ∷ []) ≡ length steps + 1 = length-append steps (first_due p offered steps k time ∷ []) in
        run_from p d offered fuel (steps ++ first_due p offered steps k time ∷ []) (omega (arith, more, left))
        (goes_on-more p d offered steps (first_due p offered steps k time) is none (λ many. omega (arith, many, left)) (first_is_next p d offered steps k time least))
    | inr nowhere ↦ ended p d offered steps Quiet is (quiet none (none_is_quiet p d offered steps nowhere))
  ]
]

-- there is a timed run
pub some_run : (p : PipelineData) (d : DelaysData) (offered : List (List Bool)) → HasRun p d offered
some_run p d offered =
    run_from p d offered (most_steps p offered) [] (omega arith)
    (record { run = tt; next = λ before rest f e. absurd (nothing_apart before rest f e); goes_on = λ before rest f end e ends. nothing_apart before rest f e })

-- ---- what a run that has stopped says of its steps and of what was delivered

-- as many pairs were delivered as words were taken
pub stopped-takes : (p : PipelineData) (d : DelaysData) (r : Run) (end : End) → IsStopped p d r end → length (takes_in r.steps.items) ≡ length r.state.delivered
stopped-takes p d r end is =
    let here : length r.state.delivered ≡ length (state_after p r.state.offered r.steps.items).delivered = ap (λ (s : State). length s.delivered) is.state in
    let counted = delivered_by_steps p (reset p r.state.offered) r.steps.items in
    sym (here ∙ counted ∙ omega arith)

-- a trace that tells of it is the timed run
pub stopped-run : (p : PipelineData) (d : DelaysData) (r : Run) (end : End) (words : List (List Bool)) (t : TraceData) → IsStopped p d r end → r.state.offered ≡ words → Tells r end t → IsTimedRun p d words t
stopped-run p d r end words t is offered told =
    subst (λ (ws : List (List Bool)). IsTimedRun p d ws t) offered
    (subst (λ (e : End). IsTimedRun p d r.state.offered (record { steps = t.steps; delivered = t.delivered; end = e })) (sym told.end)
    (subst (λ (l : List Fired). IsTimedRun p d r.state.offered (record { steps = l; delivered = t.delivered; end = end })) (sym told.steps)
    (record {
      run = is.goes_on.run;
      next = is.goes_on.next;
      goes_on = is.goes_on.goes_on;
      ends = is.ends;
      times = told.times;
      pairs = told.pairs ∙ ap (λ (s : State). s.delivered) is.state;
    })))
