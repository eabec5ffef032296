-- How a run ends, and what it has delivered.
pub use Rattle.ncl_sim.proofs.Terms.{All, AreWordsOf, Bool, CourseData, DelaysData, DeliversAll, End, Ends, Fire, Fired, IsAtRest, IsLost, IsNext, IsPersistent, IsQuiet, IsRun, IsRunFrom, IsSound, IsStopped, IsTimedRun, Item, List, Lower, NetlistData, Pair, PipelineData, Quiet, Raise, Ready, Run, Shape, State, Take, Taken, TraceData, [], after, ap, arith, both_ways, cond, enabled, false, get_or, is_take, item_number, items_in, length, length-append, length-map, lost, map, map-append, most_steps, option_map, over, quiet, refl, reset, rests_where_quiet, run_bound, safe, slice_get, slice_get-map, state_after, step, subst, suc, sym, take, take_more, takes_in, true, words_due, zero, ℕ, ◌*◌, ◌++◌, ◌+◌, ◌<◌, ◌∙◌, ◌∷◌, ◌≡◌, ◌≤◌, Tells, IfOk-weaker}
pub use Rattle.ncl_sim.proofs.Existence.{enabled_from_due, run-more, stopped-run, stopped-takes}
use Rattle.ncl_sim.proofs.Looks.{state-more}
pub use Rattle.ncl_sim.proofs.WordsDue.{due-length, few_due, few_steps}

-- ---- the steps of taking, as a loop goes over the steps

pub no-take : (item : Item) → (item ≡ Take → ⊥) → is_take item ≡ false
no-take (Fire cell) other = refl
no-take (Raise bit) other = refl
no-take (Lower bit) other = refl
no-take Take other = absurd (other refl)
no-take Ready other = refl

pub takes-push : (steps : List Fired) (f : Fired) → is_take f.item ≡ true → takes_in (steps ++ f ∷ []) ≡ takes_in steps ++ f ∷ []
takes-push [] f on = ap (λ b. cond b (f ∷ []) []) on
takes-push (g ∷ steps) f on =
    ap (λ l. cond (is_take g.item) (g ∷ l) l) (takes-push steps f on)
    ∙ pushed (is_take g.item)
  where
    pushed : (b : Bool) → cond b (g ∷ (takes_in steps ++ f ∷ [])) (takes_in steps ++ f ∷ []) ≡ cond b (g ∷ takes_in steps) (takes_in steps) ++ f ∷ []
    pushed true = refl
    pushed false = refl

pub takes-stay : (steps : List Fired) (f : Fired) → is_take f.item ≡ false → takes_in (steps ++ f ∷ []) ≡ takes_in steps
takes-stay [] f off = ap (λ b. cond b (f ∷ []) []) off
takes-stay (g ∷ steps) f off = ap (λ l. cond (is_take g.item) (g ∷ l) l) (takes-stay steps f off)

-- before a step of taking there are fewer than in all
pub takes-before : (steps : List Fired) (i : ℕ) (d : Fired) → i < length steps → is_take (get_or steps i d).item ≡ true → length (takes_in (take i steps)) < length (takes_in steps)
takes-before [] i d lt on = absurd (omega arith)
takes-before (g ∷ steps) zero d lt on =
    let more : length (takes_in (g ∷ steps)) ≡ suc (length (takes_in steps)) = ap (λ b. length (cond b (g ∷ takes_in steps) (takes_in steps))) on in
    omega (arith, more)
takes-before (g ∷ steps) (suc i) d lt on = kept (is_take g.item) (takes-before steps i d (omega arith) on)
  where
    kept : (b : Bool) → length (takes_in (take i steps)) < length (takes_in steps) → length (cond b (g ∷ takes_in (take i steps)) (takes_in (take i steps))) < length (cond b (g ∷ takes_in steps) (takes_in steps))
    kept true rest = omega (arith, rest)
    kept false rest = rest

module _ (steps : List Fired) (pairs : List Pair) (taken : List Taken) (i : ℕ) (d : Fired) (lt : i < length steps) (times : map (λ (x : Taken). x.time) taken ≡ map (λ (f : Fired). f.time) (takes_in (take i steps))) (are : map (λ (x : Taken). x.pair) taken ≡ take (length taken) pairs) where
  pub taken-before : is_take (get_or steps i d).item ≡ true → length (takes_in steps) ≡ length pairs → length taken < length pairs
  taken-before on all =
      let here : length taken ≡ length (takes_in (take i steps)) = sym (length-map taken (λ (x : Taken). x.time)) ∙ ap length times ∙ length-map (takes_in (take i steps)) (λ (f : Fired). f.time) in
      omega (arith, here, all, takes-before steps i d lt on)

  pub taken-stays : is_take (get_or steps i d).item ≡ false → map (λ (x : Taken). x.time) taken ≡ map (λ (f : Fired). f.time) (takes_in (take (i + 1) steps))
  taken-stays off = times ∙ ap (λ l. map (λ (f : Fired). f.time) l) (sym (ap takes_in (take_more steps i d lt) ∙ takes-stay (take i steps) (get_or steps i d) off))

  pub taken-times : (x : Taken) → is_take (get_or steps i d).item ≡ true → x.time ≡ (get_or steps i d).time → map (λ (y : Taken). y.time) (taken ++ x ∷ []) ≡ map (λ (f : Fired). f.time) (takes_in (take (i + 1) steps))
  taken-times x on same =
      map-append (λ (y : Taken). y.time) taken (x ∷ [])
      ∙ ap (λ l. l ++ x.time ∷ []) times ∙ ap (λ n. map (λ (f : Fired). f.time) (takes_in (take i steps)) ++ n ∷ []) same
      ∙ sym (map-append (λ (f : Fired). f.time) (takes_in (take i steps)) (get_or steps i d ∷ []))
      ∙ ap (λ l. map (λ (f : Fired). f.time) l) (sym (ap takes_in (take_more steps i d lt) ∙ takes-push (take i steps) (get_or steps i d) on))

  pub taken-pairs : (x : Taken) → length taken < length pairs → x.pair ≡ get_or pairs (length taken) x.pair → map (λ (y : Taken). y.pair) (taken ++ x ∷ []) ≡ take (length (taken ++ x ∷ [])) pairs
  taken-pairs x within same =
      let long : length (taken ++ x ∷ []) ≡ length taken + 1 = length-append taken (x ∷ []) in
      map-append (λ (y : Taken). y.pair) taken (x ∷ []) ∙ ap (λ l. l ++ x.pair ∷ []) are ∙ ap (λ y. take (length taken) pairs ++ y ∷ []) same
      ∙ sym (take_more pairs (length taken) x.pair within) ∙ ap (λ n. take n pairs) (sym long)

-- ---- where no item is taken back and runs are bounded, a timed run ends quiet

run-prefix_is : (p : PipelineData) (offered : List (List Bool)) (steps : List Fired) (last : Fired) → IsRun p offered (items_in (steps ++ last ∷ [])) → IsRun p offered (items_in steps)
run-prefix_is p offered steps last run = prefix (reset p offered) steps run
  where
    prefix : (s : State) (steps : List Fired) → IsRunFrom p s (items_in (steps ++ last ∷ [])) → IsRunFrom p s (items_in steps)
    prefix s [] run = tt
    prefix s (f ∷ steps) run = (run.0, prefix (step p s f.item) steps run.1)

not_lost : (p : PipelineData) (d : DelaysData) (offered : List (List Bool)) (t : TraceData) (item : Item) → ((items : List Item) → IsRun p offered items → IsPersistent p (after p (reset p offered) items)) → IsTimedRun p d offered t → IsLost p offered t.steps item → ⊥
not_lost p d offered t item persistent is is_lost =
    let next : IsNext p d offered is_lost.before is_lost.last = is.next is_lost.before [] is_lost.last is_lost.split in
    let on : enabled p (state_after p offered is_lost.before) is_lost.last.item ≡ true = enabled_from_due p d offered is_lost.before is_lost.last.item is_lost.last.time next.due in
    let run : IsRun p offered (items_in is_lost.before) = run-prefix_is p offered is_lost.before is_lost.last (subst (λ l. IsRun p offered (items_in l)) is_lost.split is.run) in
    let kept : enabled p (step p (state_after p offered is_lost.before) is_lost.last.item) item ≡ true = persistent (items_in is_lost.before) run is_lost.last.item item (λ e. is_lost.other (ap (item_number p) e)) on is_lost.was in
    both_ways (enabled p (state_after p offered t.steps) item) is_lost.gone
    (ap (λ l. enabled p (state_after p offered l) item) is_lost.split ∙ ap (λ s. enabled p s item) (state-more p offered is_lost.before is_lost.last) ∙ kept)

not_over : (p : PipelineData) (offered : List (List Bool)) (steps : List Fired) (item : Item) → ((items : List Item) → IsRun p offered items → length items ≤ most_steps p offered) → IsRun p offered (items_in steps) → length steps ≡ most_steps p offered → enabled p (state_after p offered steps) item ≡ true → ⊥
not_over p offered steps item bound run many on =
    let f : Fired = record { time = 0; item = item } in
    let few : length (items_in (steps ++ record { time = 0; item = item } ∷ [])) ≤ most_steps p offered = bound (items_in (steps ++ f ∷ [])) (run-more p (reset p offered) steps f run on) in
    let long : length (items_in (steps ++ record { time = 0; item = item } ∷ [])) ≡ length steps + 1 = length-map (steps ++ f ∷ []) (λ (g : Fired). g.item) ∙ length-append steps (f ∷ []) in
    omega (arith, few, long, many)

pub ends_quiet : (p : PipelineData) (d : DelaysData) (offered : List (List Bool)) (t : TraceData) → ((items : List Item) → IsRun p offered items → IsPersistent p (after p (reset p offered) items)) → ((items : List Item) → IsRun p offered items → length items ≤ most_steps p offered) → IsTimedRun p d offered t → t.end ≡ Quiet
ends_quiet p d offered t persistent bound is = by_end t.end is.ends
  where
    by_end : (end : End) → Ends p offered t.steps end → end ≡ Quiet
    by_end end (lost item is_lost least) = absurd (not_lost p d offered t item persistent is is_lost)
    by_end end (quiet none off) = refl
    by_end end (over none many item on) = absurd (not_over p offered t.steps item bound is.run many on)

pub sound-ends_quiet : (n : NetlistData) (p : PipelineData) (d : DelaysData) (offered : List (List Bool)) (t : TraceData) → Shape n p → All IsSound p.stages → AreWordsOf p offered → IsTimedRun p d offered t → t.end ≡ Quiet
sound-ends_quiet n p d offered t shape sound words is =
    ends_quiet p d offered t (λ items run. (safe n p shape sound).persistent offered items words run)
    (λ items run. subst (λ (m : NetlistData). length items ≤ 2 * words_due p offered * length m.nets) (sym shape.netlist) (run_bound n p shape sound offered items words run))
    is

-- and where it does, it is at rest
pub sound-delivers : (n : NetlistData) (p : PipelineData) (d : DelaysData) (offered : List (List Bool)) (t : TraceData) → Shape n p → All IsSound p.stages → AreWordsOf p offered → IsTimedRun p d offered t → DeliversAll p offered t
sound-delivers n p d offered t shape sound words is =
    let still : IsQuiet p (state_after p offered t.steps) = quiet_at t.end (sound-ends_quiet n p d offered t shape sound words is) is.ends in
    let rest : IsAtRest p offered (state_after p offered t.steps) = rests_where_quiet n p shape sound offered (items_in t.steps) words is.run still in
    record {
      as_many = sym (length-map t.delivered (λ (x : Taken). x.pair)) ∙ ap length is.pairs ∙ rest.delivered ∙ due-length p offered;
      each = λ k taken at.
          (safe n p shape sound).due offered (items_in t.steps) words is.run k taken.pair
          (ap (λ pairs. slice_get pairs k) (sym is.pairs) ∙ slice_get-map (λ (x : Taken). x.pair) t.delivered k ∙ ap (option_map (λ (x : Taken). x.pair)) at);
    }
  where
    quiet_at : (end : End) → end ≡ Quiet → Ends p offered t.steps end → IsQuiet p (state_after p offered t.steps)
    quiet_at end e (lost item is_lost least) = absurd cc
    quiet_at end e (quiet none off) = off
    quiet_at end e (over none many item on) = absurd cc
