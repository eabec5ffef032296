-- The queue of a run, and how it turns by one event.
pub use Rattle.ncl_sim.proofs.Terms.{All, All-contains, All-from_members, AreDelays, AreDrivenOnce, AreEnds, AreWithin, Bool, Contains, Contains-from_Member, Contains-from_slice_get, DelaysData, Edges, Ends, Fire, Fired, GoesOn, HasDelays, HasTouched, Hazard, IfSome, IsFirst, IsFor, IsFree, IsNext, IsPopped, IsQuiet, IsStopped, IsTimely, IsTracked, IsUnderWay, Item, List, LosesNone, Lower, MOST_DELAY, Member, Member-from_Contains, NetId, None, NoneWaits, Option, Over, PipelineData, Quiet, Raise, Ready, Run, Shape, Some, State, Take, Turned, [], and_from, and_parts, ap, arith, begins, both_ways, candidate, cases_Bool, cases_contains, cases_eq, cond-false, cond-true, current_rails, delay_of, due_at, due_next, due_now, edges_of, enabled, eq-eqb, eqb, false, here, if◌then◌else◌, inl, inr, is_waiting, item_number, least_of, length, length-set, list_all, look, look_at, looks, loses, lost, meaning, member_cases, most_steps, ne_eqb, net_of_step, none-some, not, not-true, number_count, over, popped, put_at, quiet, rail_nets, recursion_from_members, refl, rises, same_Some, set, slice_get, slice_get-some, slice_get_within, state_after, stated_or, step, subst, sym, there, items_at, true, ℕ, ◌*◌, ◌++◌, ◌+◌, ◌-◌, ◌<◌, ◌∙◌, ◌∷◌, ◌≡◌, ◌≢◌, ◌≤◌, ◌⊎◌}
use Rattle.ncl_sim.proofs.Existence.{candidate-number, enabled_from_due, first_due, first_is_next, goes_on-more, none_is_quiet, number_within}
use Rattle.ncl_sim.proofs.Looks.{IsLeastOf, IsSeenLost, begins-both, begins-off, begins-waiting, due_at-free, due_at-looked, due_at-rests, enabled-net, free-bit, free-cell, free-sink, free_not_lost, look-off, lost_is_seen, none-of_least, seen_is_lost, set-elsewhere, set-there, some-of_least, state-more}
use Rattle.ncl_sim.proofs.TouchedLaws.{shape-driven, shape-ends}
use Rattle.ncl_sim.proofs.Times.{last_time-more, timely}

-- ---- the looks after a step lead from what waited to what waits

-- between the step and the last look at what it touches: each number waits as before or as after the step; one
-- that was seen, or need not be, as after it, or it was lost; and what was lost waits as before
pub record IsLooking (p : PipelineData) (d : DelaysData) (offered : List (List Bool)) (steps : List Fired) (f : Fired) (Seen : ℕ → Type 0) (waits : List (Option ℕ)) : Type 0 where
  pub count : length waits ≡ number_count p
  pub each : (k : ℕ) → k < number_count p → (slice_get waits k ≡ Some (popped (eqb (item_number p f.item) k) (due_at p d offered steps k))) ⊎ (slice_get waits k ≡ Some (due_at p d offered (steps ++ f ∷ []) k))
  pub seen : (k : ℕ) → k < number_count p → Seen k → (slice_get waits k ≡ Some (due_at p d offered (steps ++ f ∷ []) k)) ⊎ IsSeenLost p d offered steps f k
  pub lost : (k : ℕ) → k < number_count p → IsSeenLost p d offered steps f k → slice_get waits k ≡ Some (due_at p d offered steps k)

-- ---- the first that waits

module _ (p : PipelineData) (d : DelaysData) (offered : List (List Bool)) (steps : List Fired) (waits : List (Option ℕ)) (is : IsTracked p d offered steps waits) where
  -- what waits first is the next entry
  pub first_event : (e : ℕ × ℕ) → e.1 < number_count p → IsFirst waits e → IsNext p d offered steps (first_due p offered steps e.1 e.0)
  first_event e within first =
      first_is_next p d offered steps e.1 e.0 (record {
        within = within;
        at = same_Some (due_at p d offered steps e.1) (Some e.0) (sym (is.at e.1 within) ∙ first.here);
        first = λ j other lt due. first.first j other (is.at j lt ∙ ap (λ w. Some w) due);
      })

  -- where nothing waits nothing can move
  pub none_waits_quiet : NoneWaits waits → IsQuiet p (state_after p offered steps)
  none_waits_quiet none =
      none_is_quiet p d offered steps (λ k lt. nothing k (due_at p d offered steps k) (is.at k lt))
    where
      nothing : (k : ℕ) (due : Option ℕ) → slice_get waits k ≡ Some due → due ≡ None
      nothing k None at = refl
      nothing k (Some due) at = absurd (none k due at)

-- ---- the looks after a step

look-again : (p : PipelineData) (d : DelaysData) (s : State) (item : Item) (time : ℕ) (waits : Option ℕ) → look p d s item time (look p d s item time waits) ≡ look p d s item time waits
look-again p d s item time waits = elim (cases_Bool (enabled p s item)) [
  | inl on ↦
      let (due, is) = some waits in
      let looked_here : look p d s item time waits ≡ Some due = cond-true (enabled p s item) (due_next p d s item false time waits) None on ∙ is in
      ap (look p d s item time) looked_here ∙ cond-true (enabled p s item) (Some due) None on ∙ sym looked_here
  | inr off ↦ look-off p d s item time (look p d s item time waits) off ∙ sym (look-off p d s item time waits off)
]
  where
    some : (waits : Option ℕ) → (due : ℕ) × (due_next p d s item false time waits ≡ Some due)
    some None = (time + delay_of d item (rises p s.value item), refl)
    some (Some due) = (due, refl)

popped-own : (k j : ℕ) (waits : Option ℕ) → k ≡ j → popped (eqb k j) waits ≡ None
popped-own k j waits same = ap (λ b. popped b waits) (eq-eqb k j same)

popped-other : (k j : ℕ) (waits : Option ℕ) → k ≢ j → popped (eqb k j) waits ≡ waits
popped-other k j waits apart = ap (λ b. popped b waits) (ne_eqb k j apart)

module _ (p : PipelineData) (d : DelaysData) (offered : List (List Bool)) (steps : List Fired) (f : Fired) (ends : AreEnds p) (once : AreDrivenOnce p) (on : enabled p (state_after p offered steps) f.item ≡ true) where
  -- the event is taken out, and its number waits no more: so it stands before the first look
  pub popped_is_looking : (waits : List (Option ℕ)) (net : ℕ) → net_of_step p (state_after p offered steps) f.item ≡ Some net → IsTracked p d offered steps waits → slice_get waits (item_number p f.item) ≡ Some (Some f.time) → IsLooking p d offered steps f (IsFree p net) (set waits (item_number p f.item) None)
  popped_is_looking waits net at is own =
      let set_there : slice_get (set waits (item_number p f.item) None) (item_number p f.item) ≡ Some None = set-there waits (item_number p f.item) None (Some f.time) own in
      record {
        count = length-set waits (item_number p f.item) None ∙ is.count;
        each = λ k lt. elim (cases_eq (item_number p f.item) k) [
          | inl same ↦ inl (ap (slice_get (set waits (item_number p f.item) None)) (sym same) ∙ set_there ∙ ap (λ w. Some w) (sym (popped-own (item_number p f.item) k (due_at p d offered steps k) same)))
          | inr other ↦ inl (set-elsewhere waits (item_number p f.item) k None other ∙ is.at k lt ∙ ap (λ w. Some w) (sym (popped-other (item_number p f.item) k (due_at p d offered steps k) other)))
        ];
        seen = λ k lt free. elim (cases_eq (item_number p f.item) k) [
          | inl same ↦
              inl (ap (slice_get (set waits (item_number p f.item) None)) (sym same) ∙ set_there
              ∙ ap (λ w. Some w) (sym (due_at-rests p d offered steps f ends once on net at (subst (IsFree p net) (sym same) free)))
              ∙ ap (λ n. Some (due_at p d offered (steps ++ f ∷ []) n)) same)
          | inr other ↦
              inl (set-elsewhere waits (item_number p f.item) k None other ∙ is.at k lt
              ∙ ap (λ w. Some w) (sym (due_at-free p d offered steps f ends once on net k at lt free other)))
        ];
        lost = λ k lt is_lost. set-elsewhere waits (item_number p f.item) k None is_lost.other ∙ is.at k lt;
      }

  abbrev pub next_state : State
  next_state = step p (state_after p offered steps) f.item

  module _ (Seen : ℕ → Type 0) (waits : List (Option ℕ)) (is : IsLooking p d offered steps f Seen waits) (k : ℕ) (lt : k < number_count p) where
    -- what a number has after the step is what the look makes of what waits there now, however often it was looked at
    pub looked : (w : Option ℕ) → slice_get waits k ≡ Some w → due_at p d offered (steps ++ f ∷ []) k ≡ look p d next_state (candidate p next_state k) f.time w
    looked w at = elim (is.each k lt) [
      | inl before ↦
          let same : popped (eqb (item_number p f.item) k) (due_at p d offered steps k) ≡ w = same_Some (popped (eqb (item_number p f.item) k) (due_at p d offered steps k)) w (sym before ∙ at) in
          due_at-looked p d offered steps f ends once on k lt ∙ ap (look p d next_state (candidate p next_state k) f.time) same
      | inr after ↦
          let same : due_at p d offered (steps ++ f ∷ []) k ≡ w = same_Some (due_at p d offered (steps ++ f ∷ []) k) w (sym after ∙ at) in
          let due : due_at p d offered (steps ++ f ∷ []) k ≡ look p d next_state (candidate p next_state k) f.time (popped (eqb (item_number p f.item) k) (due_at p d offered steps k)) = due_at-looked p d offered steps f ends once on k lt in
          due
          ∙ sym (look-again p d next_state (candidate p next_state k) f.time (popped (eqb (item_number p f.item) k) (due_at p d offered steps k)))
          ∙ ap (look p d next_state (candidate p next_state k) f.time) (sym due ∙ same)
    ]

    -- enabled, and nothing waits there: it waits from now on, and its event comes into the queue
    pub begins_to_wait : (due : ℕ) → slice_get waits k ≡ Some None → enabled p next_state (candidate p next_state k) ≡ true → due ≡ f.time + delay_of d (candidate p next_state k) (rises p next_state.value (candidate p next_state k)) → IsLooking p d offered steps f (λ j. Seen j ⊎ (k ≡ j)) (set waits k (Some due))
    begins_to_wait due at is_on is_due =
        let now : due_at p d offered (steps ++ f ∷ []) k ≡ Some due =
        looked None at
        ∙ cond-true (enabled p next_state (candidate p next_state k)) (Some (f.time + delay_of d (candidate p next_state k) (rises p next_state.value (candidate p next_state k)))) None is_on
        ∙ ap (λ n. Some n) (sym is_due) in
        let looked_here : slice_get (set waits k (Some due)) k ≡ Some (due_at p d offered (steps ++ f ∷ []) k) = set-there waits k (Some due) None at ∙ ap (λ w. Some w) (sym now) in
        record {
          count = length-set waits k (Some due) ∙ is.count;
          each = λ j within. elim (cases_eq k j) [
            | inl same ↦ inr (subst (λ n. slice_get (set waits k (Some due)) n ≡ Some (due_at p d offered (steps ++ f ∷ []) n)) same looked_here)
            | inr other ↦ elim (is.each j within) [
              | inl before ↦ inl (set-elsewhere waits k j (Some due) other ∙ before)
              | inr after ↦ inr (set-elsewhere waits k j (Some due) other ∙ after)
            ]
          ];
          seen = λ j within seen. elim (cases_eq k j) [
            | inl same ↦ inl (subst (λ n. slice_get (set waits k (Some due)) n ≡ Some (due_at p d offered (steps ++ f ∷ []) n)) same looked_here)
            | inr other ↦ elim seen [
              | inl earlier ↦ elim (is.seen j within earlier) [ inl after ↦ inl (set-elsewhere waits k j (Some due) other ∙ after) | inr is_lost ↦ inr is_lost ]
              | inr same ↦ absurd (other same)
            ]
          ];
          lost = λ j within is_lost. elim (cases_eq k j) [
            | inl same ↦ absurd (both_ways (enabled p next_state (candidate p next_state j)) is_lost.off (subst (λ n. enabled p next_state (candidate p next_state n) ≡ true) same is_on))
            | inr other ↦ set-elsewhere waits k j (Some due) other ∙ is.lost j within is_lost
          ];
        }

    unchanged : (slice_get waits k ≡ Some (due_at p d offered (steps ++ f ∷ []) k)) ⊎ IsSeenLost p d offered steps f k → IsLooking p d offered steps f (λ j. Seen j ⊎ (k ≡ j)) waits
    unchanged looked_here = record {
      count = is.count;
      each = is.each;
      seen = λ j within seen. elim seen [
        | inl earlier ↦ is.seen j within earlier
        | inr same ↦ subst (λ n. (slice_get waits n ≡ Some (due_at p d offered (steps ++ f ∷ []) n)) ⊎ IsSeenLost p d offered steps f n) same looked_here
      ];
      lost = is.lost;
    }

    -- enabled, and it waits already: nothing changes
    pub goes_on_waiting : (due : ℕ) → slice_get waits k ≡ Some (Some due) → enabled p next_state (candidate p next_state k) ≡ true → IsLooking p d offered steps f (λ j. Seen j ⊎ (k ≡ j)) waits
    goes_on_waiting due at is_on =
        unchanged (inl (at ∙ ap (λ w. Some w) (sym (looked (Some due) at ∙ cond-true (enabled p next_state (candidate p next_state k)) (Some due) None is_on))))

    -- not enabled, and nothing waits there: nothing changes
    pub goes_on_resting : slice_get waits k ≡ Some None → enabled p next_state (candidate p next_state k) ≡ false → IsLooking p d offered steps f (λ j. Seen j ⊎ (k ≡ j)) waits
    goes_on_resting at off =
        unchanged (inl (at ∙ ap (λ w. Some w) (sym (looked None at ∙ look-off p d next_state (candidate p next_state k) f.time None off))))

    -- not enabled, and it waited: it was lost
    pub was_lost : (due : ℕ) → slice_get waits k ≡ Some (Some due) → enabled p next_state (candidate p next_state k) ≡ false → IsSeenLost p d offered steps f k × IsLooking p d offered steps f (λ j. Seen j ⊎ (k ≡ j)) waits
    was_lost due at off =
        let none : due_at p d offered (steps ++ f ∷ []) k ≡ None = looked (Some due) at ∙ look-off p d next_state (candidate p next_state k) f.time (Some due) off in
        let gone : IsSeenLost p d offered steps f k =
        elim (is.each k lt) [
          | inl before ↦
              let waited : popped (eqb (item_number p f.item) k) (due_at p d offered steps k) ≡ Some due = same_Some (popped (eqb (item_number p f.item) k) (due_at p d offered steps k)) (Some due) (sym before ∙ at) in
              elim (cases_eq (item_number p f.item) k) [
                | inl same ↦ absurd (none-some due (sym (popped-own (item_number p f.item) k (due_at p d offered steps k) same) ∙ waited))
                | inr other ↦ record { other = other; due = due; waited = sym (popped-other (item_number p f.item) k (due_at p d offered steps k) other) ∙ waited; off = off }
              ]
          | inr after ↦ absurd (none-some due (sym none ∙ same_Some (due_at p d offered (steps ++ f ∷ []) k) (Some due) (sym after ∙ at)))
        ] in
        (gone, unchanged (inr gone))

  -- a number that isn't touched was not lost, and where no number was, nothing was
  pub free_not_seen : (net k : ℕ) → net_of_step p (state_after p offered steps) f.item ≡ Some net → k < number_count p → IsFree p net k → IsSeenLost p d offered steps f k → ⊥
  free_not_seen net k at lt free is_lost =
      free_not_lost p d offered steps f ends once on net (candidate p next_state k) at (free next_state) (seen_is_lost p d offered steps f ends once on k lt is_lost)

  pub none_seen : ((k : ℕ) → k < number_count p → IsSeenLost p d offered steps f k → ⊥) → LosesNone p offered (steps ++ f ∷ [])
  none_seen none item is_lost =
      let within : item_number p item < number_count p = number_within p (state_after p offered is_lost.before) item is_lost.was in
      none (item_number p item) within (lost_is_seen p d offered steps f ends once on item is_lost)

  -- after the last look, where nothing was lost, the table and the queue are those of the steps with one more
  pub looked_is_tracked : (Seen : ℕ → Type 0) (waits : List (Option ℕ)) → IsLooking p d offered steps f Seen waits → ((k : ℕ) → k < number_count p → Seen k) → LosesNone p offered (steps ++ f ∷ []) → IsTracked p d offered (steps ++ f ∷ []) waits
  looked_is_tracked Seen waits is all none = record {
    count = is.count;
    at = λ k lt. elim (is.seen k lt (all k lt)) [
      | inl after ↦ after
      | inr gone ↦ absurd (none (candidate p next_state k) (seen_is_lost p d offered steps f ends once on k lt gone))
    ];
  }

-- ---- what isn't in the table needs no look

pub free-of_table : (p : PipelineData) (table : List (List ℕ)) → HasTouched p table → (net k : ℕ) → k < number_count p → (Contains (items_at table net) k → ⊥) → IsFree p net k
free-of_table p table is net k lt not_in = elim (below_or (length p.netlist.cells) k) [
  | inl cell ↦
      free-cell p net k cell (λ c at. recursion_from_members (λ (x : NetId). net ≢ x.0) c.ins.items (λ x m e.
      not_in (subst (λ n. Contains (items_at table n) k) (sym e) (is.cells k c at x (Contains-from_Member x m)))))
  | inr past ↦ elim (below_or (length p.netlist.cells + length p.inputs) k) [
    | inl bit ↦
        let place : length p.netlist.cells + (k - length p.netlist.cells) ≡ k = omega arith in
        free-bit p net k past bit (λ e. not_in (subst (λ n. Contains (items_at table n) k) (sym e) (subst (Contains (items_at table p.ko)) place (is.bits (k - length p.netlist.cells) (omega arith)))))
    | inr sink ↦
        let place : length p.netlist.cells + length p.inputs ≡ k = omega arith in
        free-sink p net k sink (recursion_from_members (λ other. net ≢ other) (rail_nets p.outputs) (λ other m e.
        not_in (subst (λ n. Contains (items_at table n) k) (sym e) (subst (Contains (items_at table other)) place (is.sink other (Contains-from_Member other m))))))
  ]
]
  where
    below_or : (m k : ℕ) → (k < m) ⊎ (m ≤ k)
    below_or m k = search arith

-- and what is in it is a number
pub below-table : (p : PipelineData) (table : List (List ℕ)) → HasTouched p table → (net : ℕ) (numbers : List ℕ) → numbers ≡ items_at table net → All (λ k. k < number_count p) numbers
below-table p table is net numbers same = All-from_members (λ k. k < number_count p) numbers (λ k m. is.below net k (subst (λ ks. Contains ks k) same (Contains-from_Member k m)))

-- ---- looks at many numbers

abbrev SeenAfter : (ℕ → Type 0) → List ℕ → ℕ → Type 0
SeenAfter Seen [] = Seen
SeenAfter Seen (j ∷ js) = SeenAfter (λ i. Seen i ⊎ (j ≡ i)) js

seen-still : (Seen : ℕ → Type 0) (js : List ℕ) (i : ℕ) → Seen i → SeenAfter Seen js i
seen-still Seen [] i seen = seen
seen-still Seen (j ∷ js) i seen = seen-still (λ i. Seen i ⊎ (j ≡ i)) js i (inl seen)

seen-member : (Seen : ℕ → Type 0) (js : List ℕ) (i : ℕ) → Member i js → SeenAfter Seen js i
seen-member Seen [] i m = elim m [ ]
seen-member Seen (j ∷ js) i m = elim (member_cases i j js m) [
  | inl same ↦ seen-still (λ i. Seen i ⊎ (j ≡ i)) js i (inr same)
  | inr later ↦ seen-member (λ i. Seen i ⊎ (j ≡ i)) js i later
]

waiting-due : (w : Option (Option ℕ)) → is_waiting w ≡ true → (due : ℕ) × (w ≡ Some (Some due))
waiting-due None on = absurd cc
waiting-due (Some None) on = absurd cc
waiting-due (Some (Some due)) on = (due, refl)

module _ (p : PipelineData) (d : DelaysData) (shape : Shape p.netlist p) (table : List (List ℕ)) (touched : HasTouched p table) (offered : List (List Bool)) (steps : List Fired) (f : Fired) (on : enabled p (state_after p offered steps) f.item ≡ true) where
  abbrev after : State
  after = step p (state_after p offered steps) f.item

  keep-one : (Seen : ℕ → Type 0) (ws : List (Option ℕ)) → IsLooking p d offered steps f Seen ws → (j : ℕ) → j < number_count p → IsLooking p d offered steps f (λ i. Seen i ⊎ (j ≡ i)) (look_at p d after f.time ws j)
  keep-one Seen ws is j lt =
      let (w, at) = slice_get-some ws j (subst (λ n. j < n) (sym is.count) lt) in
      elim (cases_Bool (enabled p after (candidate p after j))) [
        | inl is_on ↦ enabled_look w at is_on
        | inr off ↦ subst (IsLooking p d offered steps f (λ i. Seen i ⊎ (j ≡ i))) (sym (cond-false (begins p after ws j) (set ws j (Some (due_now p d after f.time j))) ws (begins-off p after ws j off))) (resting_look w at off)
      ]
    where
      enabled_look : (w : Option ℕ) → slice_get ws j ≡ Some w → enabled p after (candidate p after j) ≡ true → IsLooking p d offered steps f (λ i. Seen i ⊎ (j ≡ i)) (look_at p d after f.time ws j)
      enabled_look None at is_on =
          subst (IsLooking p d offered steps f (λ i. Seen i ⊎ (j ≡ i))) (sym (cond-true (begins p after ws j) (set ws j (Some (due_now p d after f.time j))) ws (begins-both p after ws j is_on (ap is_waiting at))))
          (begins_to_wait p d offered steps f (shape-ends p shape) (shape-driven p shape) on Seen ws is j lt (due_now p d after f.time j) at is_on refl)
      enabled_look (Some due) at is_on =
          subst (IsLooking p d offered steps f (λ i. Seen i ⊎ (j ≡ i))) (sym (cond-false (begins p after ws j) (set ws j (Some (due_now p d after f.time j))) ws (begins-waiting p after ws j (ap is_waiting at))))
          (goes_on_waiting p d offered steps f (shape-ends p shape) (shape-driven p shape) on Seen ws is j lt due at is_on)

      resting_look : (w : Option ℕ) → slice_get ws j ≡ Some w → enabled p after (candidate p after j) ≡ false → IsLooking p d offered steps f (λ i. Seen i ⊎ (j ≡ i)) ws
      resting_look None at off = goes_on_resting p d offered steps f (shape-ends p shape) (shape-driven p shape) on Seen ws is j lt at off
      resting_look (Some due) at off = (was_lost p d offered steps f (shape-ends p shape) (shape-driven p shape) on Seen ws is j lt due at off).1

  keep-all : (Seen : ℕ → Type 0) (ws : List (Option ℕ)) (js : List ℕ) → IsLooking p d offered steps f Seen ws → ((j : ℕ) → Member j js → j < number_count p) → IsLooking p d offered steps f (SeenAfter Seen js) (looks p d after f.time ws js)
  keep-all Seen ws [] is within = is
  keep-all Seen ws (j ∷ js) is within =
      keep-all (λ i. Seen i ⊎ (j ≡ i)) (look_at p d after f.time ws j) js (keep-one Seen ws is j (within j here)) (λ i m. within i (there m))

  module _ (net : ℕ) (changed : net_of_step p (state_after p offered steps) f.item ≡ Some net) (ws : List (Option ℕ)) (is : IsLooking p d offered steps f (IsFree p net) ws) where
    loses-lost : (j : ℕ) → j < number_count p → IsSeenLost p d offered steps f j → loses p after ws j ≡ true
    loses-lost j lt is_lost =
        and_from (not (enabled p after (candidate p after j))) (is_waiting (slice_get ws j)) (ap not is_lost.off)
        (ap is_waiting (is.lost j lt is_lost ∙ ap (λ w. Some w) is_lost.waited))

    -- what was lost is among the numbers of the net
    lost-touched : (j : ℕ) → j < number_count p → IsSeenLost p d offered steps f j → Member j (items_at table net)
    lost-touched j lt is_lost = elim (cases_contains (items_at table net) j) [
      | inl in_table ↦ Member-from_Contains (items_at table net) j in_table
      | inr not_in ↦ absurd (free_not_seen p d offered steps f (shape-ends p shape) (shape-driven p shape) on net j changed lt (free-of_table p table touched net j lt not_in) is_lost)
    ]

    pub none-lost : least_of (loses p after ws) None (items_at table net) ≡ None → LosesNone p offered (steps ++ f ∷ [])
    none-lost none =
        none_seen p d offered steps f (shape-ends p shape) (shape-driven p shape) on
        (λ j lt is_lost. both_ways (loses p after ws j) ((none-of_least (loses p after ws) None (items_at table net) none).1 j (lost-touched j lt is_lost)) (loses-lost j lt is_lost))

    pub all-looked : LosesNone p offered (steps ++ f ∷ []) → IsTracked p d offered (steps ++ f ∷ []) (looks p d after f.time ws (items_at table net))
    all-looked none =
        looked_is_tracked p d offered steps f (shape-ends p shape) (shape-driven p shape) on (SeenAfter (IsFree p net) (items_at table net)) (looks p d after f.time ws (items_at table net))
        (keep-all (IsFree p net) ws (items_at table net) is (λ j m. touched.below net j (Contains-from_Member j m)))
        (λ j lt. elim (cases_contains (items_at table net) j) [
          | inl in_table ↦ seen-member (IsFree p net) (items_at table net) j (Member-from_Contains (items_at table net) j in_table)
          | inr not_in ↦ seen-still (IsFree p net) (items_at table net) j (free-of_table p table touched net j lt not_in)
        ])
        none

    pub first-lost : (m : ℕ) → least_of (loses p after ws) None (items_at table net) ≡ Some m → (m < number_count p) × Ends p offered (steps ++ f ∷ []) (Hazard (candidate p after m) f.time)
    first-lost m e =
        let least : IsLeastOf (loses p after ws) None (items_at table net) m = some-of_least (loses p after ws) None (items_at table net) m e in
        let (listed, passes) = there_is least.is in
        let within : m < number_count p = touched.below net m (Contains-from_Member m listed) in
        let (off, waits) = and_parts (not (enabled p after (candidate p after m))) (is_waiting (slice_get ws m)) passes in
        let (due, at) = waiting-due (slice_get ws m) waits in
        let is_lost : IsSeenLost p d offered steps f m = (was_lost p d offered steps f (shape-ends p shape) (shape-driven p shape) on (IsFree p net) ws is m within due at (not-true (enabled p after (candidate p after m)) off)).0 in (
          within,
          subst (λ t. Ends p offered (steps ++ f ∷ []) (Hazard (candidate p after m) t)) (last_time-more 0 steps f)
              (lost (candidate p after m) (seen_is_lost p d offered steps f (shape-ends p shape) (shape-driven p shape) on m within is_lost) (λ other other_lost.
              let seen : IsSeenLost p d offered steps f (item_number p other) = lost_is_seen p d offered steps f (shape-ends p shape) (shape-driven p shape) on other other_lost in
              let lt : item_number p other < number_count p = number_within p (state_after p offered other_lost.before) other other_lost.was in
              let number : item_number p (candidate p after m) ≡ m = candidate-number p after m within in
              let le : m ≤ item_number p other = least.first (item_number p other) (lost-touched (item_number p other) lt seen) (loses-lost (item_number p other) lt seen) in
              omega (arith, number, le))),
        )
      where
        there_is : (None ≡ Some m) ⊎ (Member m (items_at table net) × (loses p after ws m ≡ true)) → Member m (items_at table net) × (loses p after ws m ≡ true)
        there_is (inl never) = absurd (none-some m never)
        there_is (inr listed) = listed

-- ---- a turn

-- what was taken out first is the next entry
pub popped-within : (p : PipelineData) (d : DelaysData) (r : Run) (time k : ℕ) → IsPopped p d r time k → k < number_count p
popped-within p d r time k is = subst (λ n. k < n) is.under_way.waits.count (slice_get_within is.waits k (Some time) is.first.here)

pub popped-next : (p : PipelineData) (d : DelaysData) (r : Run) (time k : ℕ) → IsPopped p d r time k → IsNext p d r.state.offered r.steps.items (first_due p r.state.offered r.steps.items k time)
popped-next p d r time k is =
    first_event p d r.state.offered r.steps.items is.waits is.under_way.waits (time, k) (popped-within p d r time k is) is.first

pub popped-enabled : (p : PipelineData) (d : DelaysData) (r : Run) (time k : ℕ) → IsPopped p d r time k → enabled p (state_after p r.state.offered r.steps.items) (candidate p (state_after p r.state.offered r.steps.items) k) ≡ true
popped-enabled p d r time k is =
    enabled_from_due p d r.state.offered r.steps.items (candidate p (state_after p r.state.offered r.steps.items) k) time (popped-next p d r time k is).due

step-offered : (p : PipelineData) (s : State) (item : Item) → (step p s item).offered ≡ s.offered
step-offered p s (Fire cell) = refl
step-offered p s (Raise bit) = refl
step-offered p s (Lower bit) = lowered (list_all (λ net. not (put_at s.value (slice_get (current_rails p s) bit) false net)) (current_rails p s))
  where
    lowered : (b : Bool) → (if b then record s { value = put_at s.value (slice_get (current_rails p s) bit) false; falling = false; done = s.done + 1 } else record s { value = put_at s.value (slice_get (current_rails p s) bit) false }).offered ≡ s.offered
    lowered true = refl
    lowered false = refl
step-offered p s Take = refl
step-offered p s Ready = refl

-- what a turn made, and what its looks found, in the words of the steps
pub record IsTurn (p : PipelineData) (d : DelaysData) (table : List (List ℕ)) (old new : Run) (time k net : ℕ) (least : Option ℕ) : Type 0 where
  pub made : IsFor p new.state
  pub state : meaning new.state ≡ step p (meaning old.state) (candidate p (meaning old.state) k)
  pub steps : new.steps.items ≡ old.steps.items ++ record { time = time; item = candidate p (meaning old.state) k } ∷ []
  pub agenda : new.agenda ≡ looks p d (meaning new.state) time old.agenda (items_at table net)
  pub found : least ≡ least_of (loses p (meaning new.state) old.agenda) None (items_at table net)
  pub changes : IfSome (net_of_step p (meaning old.state) (candidate p (meaning old.state) k)) (λ changed. net ≡ changed)

module _ (p : PipelineData) (d : DelaysData) (shape : Shape p.netlist p) (table : List (List ℕ)) (touched : HasTouched p table) (old new : Run) (time k net : ℕ) (was : IsPopped p d old time k) (few : length old.steps.items < most_steps p old.state.offered) where
  abbrev offered_words : List (List Bool)
  offered_words = old.state.offered

  abbrev before : State
  before = state_after p offered_words old.steps.items

  abbrev next_step : Fired
  next_step = first_due p offered_words old.steps.items k time

  abbrev is_on : enabled p before next_step.item ≡ true
  is_on = popped-enabled p d old time k was

  looking-from : net_of_step p before next_step.item ≡ Some net → IsLooking p d offered_words old.steps.items next_step (IsFree p net) old.agenda
  looking-from changed =
      let number : item_number p next_step.item ≡ k = candidate-number p before k (popped-within p d old time k was) in
      subst (IsLooking p d offered_words old.steps.items next_step (IsFree p net)) (ap (λ n. set was.waits n None) number ∙ sym was.agenda)
      (popped_is_looking p d offered_words old.steps.items next_step (shape-ends p shape) (shape-driven p shape) is_on was.waits net changed was.under_way.waits
      (subst (λ n. slice_get was.waits n ≡ Some (Some time)) (sym number) was.first.here))

  goes_after : GoesOn p d offered_words (old.steps.items ++ next_step ∷ [])
  goes_after =
      goes_on-more p d offered_words old.steps.items next_step was.under_way.goes_on was.under_way.none_lost (λ e. omega (arith, e, few)) (popped-next p d old time k was)

  pub turned : (least : Option ℕ) → IsTurn p d table old new time k net least → Turned p d new time least
  turned least is =
      let was_state : meaning old.state ≡ before = was.under_way.state in
      let state : meaning new.state ≡ step p before next_step.item = is.state ∙ ap (λ s. step p s (candidate p s k)) was_state in
      let steps : new.steps.items ≡ old.steps.items ++ next_step ∷ [] = is.steps ∙ ap (λ s. old.steps.items ++ record { time = time; item = candidate p s k } ∷ []) was_state in
      let offered : new.state.offered ≡ offered_words = ap (λ (s : State). s.offered) is.state ∙ step-offered p (meaning old.state) (candidate p (meaning old.state) k) in
      let (n, at) = enabled-net p before next_step.item is_on in
      let same : net ≡ n = subst (λ o. IfSome o (λ changed. net ≡ changed)) at (subst (λ s. IfSome (net_of_step p s (candidate p s k)) (λ changed. net ≡ changed)) was_state is.changes) in
      let changed : net_of_step p before next_step.item ≡ Some net = at ∙ ap (λ m. Some m) (sym same) in
      let agenda : new.agenda ≡ looks p d (step p before next_step.item) time old.agenda (items_at table net) = is.agenda ∙ ap (λ s. looks p d s time old.agenda (items_at table net)) state in
      let found : least ≡ least_of (loses p (step p before next_step.item) old.agenda) None (items_at table net) = is.found ∙ ap (λ s. least_of (loses p s old.agenda) None (items_at table net)) state in
      by_lost least state steps offered changed agenda (sym found)
    where
      by_lost : (least : Option ℕ) → meaning new.state ≡ step p before next_step.item → new.steps.items ≡ old.steps.items ++ next_step ∷ [] → new.state.offered ≡ offered_words → net_of_step p before next_step.item ≡ Some net → new.agenda ≡ looks p d (step p before next_step.item) time old.agenda (items_at table net) → least_of (loses p (step p before next_step.item) old.agenda) None (items_at table net) ≡ least → Turned p d new time least
      by_lost None state steps offered changed agenda found =
          let none : LosesNone p offered_words (old.steps.items ++ next_step ∷ []) = none-lost p d shape table touched offered_words old.steps.items next_step is_on net changed old.agenda (looking-from changed) found in
          record {
            made = is.made;
            state = there (λ o ss. meaning new.state ≡ state_after p o ss) (state ∙ sym (state-more p offered_words old.steps.items next_step));
            goes_on = there (GoesOn p d) goes_after;
            none_lost = there (LosesNone p) none;
            waits = there (λ o ss. IsTracked p d o ss new.agenda) (subst (IsTracked p d offered_words (old.steps.items ++ next_step ∷ [])) (sym agenda) (all-looked p d shape table touched offered_words old.steps.items next_step is_on net changed old.agenda (looking-from changed) none));
          }
        where
          there : (P : List (List Bool) → List Fired → Type 0) → P offered_words (old.steps.items ++ next_step ∷ []) → P new.state.offered new.steps.items
          there P was_there = subst (λ o. P o new.steps.items) (sym offered) (subst (P offered_words) (sym steps) was_there)
      by_lost (Some m) state steps offered changed agenda found =
          let (within, ends) = first-lost p d shape table touched offered_words old.steps.items next_step is_on net changed old.agenda (looking-from changed) m found in (
            record {
              state = there (λ o ss. meaning new.state ≡ state_after p o ss) (state ∙ sym (state-more p offered_words old.steps.items next_step));
              goes_on = there (GoesOn p d) goes_after;
              ends = there (λ o ss. Ends p o ss (Hazard (candidate p (meaning new.state) m) time)) (subst (λ s. Ends p offered_words (old.steps.items ++ next_step ∷ []) (Hazard (candidate p s m) time)) (sym state) ends);
            },
            within,
            is.made,
          )
        where
          there : (P : List (List Bool) → List Fired → Type 0) → P offered_words (old.steps.items ++ next_step ∷ []) → P new.state.offered new.steps.items
          there P was_there = subst (λ o. P o new.steps.items) (sym offered) (subst (P offered_words) (sym steps) was_there)

-- ---- the end

pub stopped-quiet : (p : PipelineData) (d : DelaysData) (r : Run) (agenda : List (Option ℕ)) → IsUnderWay p d r → NoneWaits r.agenda → IsStopped p d (record r { agenda = agenda }) Quiet
stopped-quiet p d r agenda is none = record {
  state = is.state;
  goes_on = is.goes_on;
  ends = quiet is.none_lost (none_waits_quiet p d r.state.offered r.steps.items r.agenda is.waits none);
}

pub stopped-over : (p : PipelineData) (d : DelaysData) (r : Run) (time k : ℕ) → IsPopped p d r time k → length r.steps.items ≡ most_steps p r.state.offered → IsStopped p d r Over
stopped-over p d r time k is many = record {
  state = is.under_way.state;
  goes_on = is.under_way.goes_on;
  ends = over is.under_way.none_lost many (candidate p (state_after p r.state.offered r.steps.items) k) (popped-enabled p d r time k is);
}

-- the time of what is due is at most one delay for each step and one more
edges-are : (d : DelaysData) → HasDelays d → (item : Item) → AreDelays (edges_of d item)
edges-are d has (Fire cell) = stated (slice_get d.cells cell.0) refl
  where
    stated : (found : Option (Option Edges)) → slice_get d.cells cell.0 ≡ found → AreDelays (stated_or d.default found)
    stated None at = has.default
    stated (Some None) at = has.default
    stated (Some (Some edges)) at = All-contains (λ s. IfSome s AreDelays) d.cells (Some edges) has.cells (Contains-from_slice_get d.cells cell.0 (Some edges) at)
edges-are d has (Raise bit) = has.source
edges-are d has (Lower bit) = has.source
edges-are d has Take = has.sink
edges-are d has Ready = has.sink

within-most : (d : DelaysData) → HasDelays d → AreWithin d MOST_DELAY
within-most d has item true = (edges-are d has item).rise.most
within-most d has item false = (edges-are d has item).fall.most

pub popped-time : (p : PipelineData) (d : DelaysData) (r : Run) (time k : ℕ) → HasDelays d → IsPopped p d r time k → time ≤ length r.steps.items * MOST_DELAY + MOST_DELAY
popped-time p d r time k has is =
    let timely_is : IsTimely p d MOST_DELAY r.state.offered r.steps.items = timely p d MOST_DELAY (within-most d has) r.state.offered r.steps.items is.under_way.goes_on.next in
    let due = timely_is.dues (candidate p (state_after p r.state.offered r.steps.items) k) time (popped-next p d r time k is).due in
    omega (arith, timely_is.last, due.1)
