-- The steps of covers, one cover and one model further.
pub use Rattle.ncl_match.proofs.Terms.{[], AddsModel, AddsStep, All, All-cons, All-nil, AreAdded, AreInRow, AreJoined, AreModels, AreNumbered, AreOrdered, Contains, Contains-push_cases, Cover, HasStep, HoldsOf, IsModel, IsNumbered, IsOrder, IsOutOf, IsSome, List, Model, Option, Some, Stay, Step, ap, apart_from_distinct, arith, common_steps, cond, covers_few, dependency_graph, driver_place, eq-eqb, eqb-true, false, false≢true, filter_map, get, get_or, get_or-append-add, get_or-map, get_or-range_with_len, get_or-take, get_or_append_left, get_or_default, get_or_from_slice_get, get_or_push, holds_of_all, inl, inr, length, length-append, length-map, length-order, length-range_with_len, length-take, length_push, map, map_more, map_push, nat_cmp, nat_eq, outputs_of, outs_differ, push_cases, range_with_len, range_with_len-more, refl, same_Some, signals_of, size_of_model, slice_get, slice_get-end, slice_get-get_or, slice_get-kept, slice_get_read, slice_get_within, subst, suc, sum_by, sum_by-cons, sum_by_push, sym, take, take_all, take_more, true, turn_done, turn_holds, turn_within, width_of, zero, zero-add, ℕ, ⊎_elim, ◌++◌, ◌+◌, ◌<◌, ◌==◌, ◌^◌, ◌∙◌, ◌∷◌, ◌≡◌, ◌≤◌, ◌⊎◌}

-- ---- what is looked up

pub found_more : (known : ℕ → Option ℕ) (signals : List ℕ) (i : ℕ) (found new : List ℕ) (number : ℕ) → i < length signals → map Some found ≡ map known (take i signals) → known (get_or signals i 0) ≡ Some number → new ≡ found ++ number ∷ [] → map Some new ≡ map known (take (i + 1) signals)
found_more known signals i found new number within before at e =
    ap (map Some) e ∙ map_push Some found number ∙ (λ j. before j ++ sym at j ∷ []) ∙ sym (map_more known signals i 0 within)

-- what holds of each number that is known holds of all that are looked up
pub numbers_all : (number : ℕ → Option ℕ) (P : ℕ → Type 0) → ((signal x : ℕ) → number signal ≡ Some x → P x) → (signals xs : List ℕ) → map number signals ≡ map Some xs → All P xs
numbers_all number P holds [] [] e = All-nil P
numbers_all number P holds [] (x ∷ xs) e = absurd cc
numbers_all number P holds (signal ∷ signals) [] e = absurd cc
numbers_all number P holds (signal ∷ signals) (x ∷ xs) e =
    let first : number signal ≡ Some x = cc in
    let rest : map number signals ≡ map Some xs = cc in
    All-cons P x xs (holds signal x first) (numbers_all number P holds signals xs rest)

-- numbers that were known are so still
pub numbers_kept : (number new : ℕ → Option ℕ) → ((signal x : ℕ) → number signal ≡ Some x → new signal ≡ Some x) → (signals xs : List ℕ) → map number signals ≡ map Some xs → map new signals ≡ map Some xs
numbers_kept number new kept [] [] e = refl
numbers_kept number new kept [] (x ∷ xs) e = absurd cc
numbers_kept number new kept (signal ∷ signals) [] e = absurd cc
numbers_kept number new kept (signal ∷ signals) (x ∷ xs) e =
    let first : number signal ≡ Some x = cc in
    let rest : map number signals ≡ map Some xs = cc in
    let here = kept signal x first in
    let there = numbers_kept number new kept signals xs rest in
    λ i. here i ∷ there i

pub numbers_many : (number : ℕ → Option ℕ) (signals xs : List ℕ) → map number signals ≡ map Some xs → length xs ≡ length signals
numbers_many number signals xs e = sym (length-map xs Some) ∙ ap length (sym e) ∙ length-map signals number

-- ---- no signal has two drivers

module _ (m : Model) (is : IsModel m) (place : ℕ) (cover : Cover) (at : slice_get m.covers place ≡ Some cover) where
  abbrev driven_signals : List ℕ
  driven_signals = map (λ (c : Cover). c.out) m.covers

  pub no_input : cover.out < length m.inputs → ⊥
  no_input lt =
      let within = slice_get_within m.covers place cover at in
      let many : length (signals_of m) ≡ length m.inputs + length m.covers = length-append m.inputs driven_signals ∙ ap (λ n. length m.inputs + n) (length-map m.covers (λ (c : Cover). c.out)) in
      let left : get_or (signals_of m) cover.out 0 ≡ cover.out =
      get_or_append_left m.inputs driven_signals 0 cover.out lt ∙ ap (λ l. get_or l cover.out 0) is.inputs_in_order ∙ get_or-range_with_len 0 (length m.inputs) cover.out 0 lt ∙ zero-add cover.out in
      let right : get_or (signals_of m) (length m.inputs + place) 0 ≡ cover.out =
      get_or-append-add m.inputs driven_signals place 0 ∙ get_or-map (λ (c : Cover). c.out) m.covers place cover 0 within ∙ ap (λ (c : Cover). c.out) (get_or_from_slice_get m.covers place cover cover at) in
      false≢true (sym (apart_from_distinct nat_eq (signals_of m) cover.out (length m.inputs + place) 0 is.one_driver (omega (arith, lt)) (omega (arith, within, many))) ∙ eq-eqb (get_or (signals_of m) cover.out 0) (get_or (signals_of m) (length m.inputs + place) 0) (left ∙ sym right))

  pub one_place : (other : ℕ) (c : Cover) → slice_get m.covers other ≡ Some c → c.out ≡ cover.out → other ≡ place
  one_place other c c_at same =
      outs_differ m is other place cover (slice_get_within m.covers other c c_at) (slice_get_within m.covers place cover at)
      (ap (λ (x : Cover). x.out) (get_or_from_slice_get m.covers other c cover c_at) ∙ same ∙ ap (λ (x : Cover). x.out) (sym (get_or_from_slice_get m.covers place cover cover at)))

-- ---- one cover more

module _ (n : ℕ) (old steps new : List Step) (m : Model) (ins : List ℕ) (number next : ℕ → Option ℕ) (done : List ℕ) (place : ℕ) (cover : Cover) (at : slice_get m.covers place ≡ Some cover) (adds : AddsStep steps new number cover) (update : (q : ℕ) → next q ≡ cond (cover.out == q) (Some (n + length steps)) (number q)) (fresh : (x : ℕ) → number cover.out ≡ Some x → ⊥) (widths : All (λ row. length row ≡ length cover.ins) cover.rows) (a : AreAdded n old steps m ins number done) where
  grows : (j : ℕ) (step : Step) → slice_get steps j ≡ Some step → slice_get new j ≡ Some step
  grows j step e = ap (λ l. slice_get l j) adds.steps ∙ slice_get-kept steps adds.step j step e

  kept : (signal x : ℕ) → number signal ≡ Some x → next signal ≡ Some x
  kept signal x e =
      update signal
      ∙ elim (cover.out == signal) as (λ b. (cover.out == signal) ≡ b → cond b (Some (n + length steps)) (number signal) ≡ Some x) [
        | true ↦ λ same. absurd (fresh x (ap number (eqb-true cover.out signal same) ∙ e))
        | false ↦ λ differs. e
      ] refl

  now_known : next cover.out ≡ Some (n + length steps)
  now_known = update cover.out ∙ ap (λ b. cond b (Some (n + length steps)) (number cover.out)) (eq-eqb cover.out cover.out refl)

  known_cases : (signal x : ℕ) → next signal ≡ Some x → ((cover.out ≡ signal) × (x ≡ n + length steps)) ⊎ (number signal ≡ Some x)
  known_cases signal x e =
      elim (cover.out == signal) as (λ b. (cover.out == signal) ≡ b → cond b (Some (n + length steps)) (number signal) ≡ Some x → ((cover.out ≡ signal) × (x ≡ n + length steps)) ⊎ (number signal ≡ Some x)) [
        | true ↦ λ same is. inl (eqb-true cover.out signal same, sym (same_Some (n + length steps) x is))
        | false ↦ λ differs is. inr is
      ] refl (sym (update signal) ∙ e)

  count-one : length new ≡ length steps + 1
  count-one = ap length adds.steps ∙ length_push steps adds.step

  own-step : HasStep n new next cover
  own-step = record {
    place = length steps;
    step = adds.step;
    at = ap (λ l. slice_get l (length steps)) adds.steps ∙ slice_get-end steps adds.step (length steps) refl;
    is = adds.is;
    out = now_known;
    ins = numbers_kept number next kept cover.ins adds.step.ins adds.ins;
  }

  old-step : (c : Cover) → HasStep n steps number c → HasStep n new next c
  old-step c h = record {
    place = h.place;
    step = h.step;
    at = grows h.place h.step h.at;
    is = h.is;
    out = kept c.out (n + h.place) h.out;
    ins = numbers_kept number next kept c.ins h.step.ins h.ins;
  }

  pub added-more : AreAdded n old new m ins next (done ++ place ∷ [])
  added-more = record {
    stay = λ j step e. grows j step (a.stay j step e);
    count = omega (arith, count-one, a.count, length_push done place);
    ordered = record {
      before = λ j step e.
          ⊎_elim
          (λ before. a.ordered.before j step before)
          (λ (j_is, same).
          subst (λ k. All (λ x. x < n + k) step.ins) (sym j_is)
          (subst (λ (s : Step). All (λ x. x < n + length steps) s.ins) same (numbers_all number (λ x. x < n + length steps) a.below cover.ins adds.step.ins adds.ins)))
          (push_cases steps adds.step j step (ap (λ l. slice_get l j) (sym adds.steps) ∙ e));
      widths = λ j step e.
          ⊎_elim
          (λ before. a.ordered.widths j step before)
          (λ (j_is, same).
          subst (λ (s : Step). All (λ row. length row ≡ length s.ins) s.cover.now.rows) same
          (subst (λ (c : Cover). All (λ row. length row ≡ length adds.step.ins) c.rows) (sym adds.is)
          (subst (λ k. All (λ row. length row ≡ k) cover.rows) (sym (numbers_many number cover.ins adds.step.ins adds.ins)) widths)))
          (push_cases steps adds.step j step (ap (λ l. slice_get l j) (sym adds.steps) ∙ e));
    };
    inputs = λ i lt. kept i (get_or ins i 0) (a.inputs i lt);
    covers = λ other c there c_at.
        ⊎_elim
        (λ before. old-step c (a.covers other c before c_at))
        (λ same. subst (HasStep n new next) (same_Some cover c (sym at ∙ ap (slice_get m.covers) same ∙ c_at)) own-step)
        (Contains-push_cases done place other there);
    only = λ signal x e.
        ⊎_elim
        (λ (same, x_is). inr (record { place = place; cover = cover; is_done = last_in; at = at; out = same }))
        (λ before. ⊎_elim (λ lt. inl lt) (λ (o : IsOutOf m done signal). inr (record { place = o.place; cover = o.cover; is_done = before_in o.place o.is_done; at = o.at; out = o.out })) (a.only signal x before))
        (known_cases signal x e);
    below = λ signal x e.
        ⊎_elim
        (λ (same, x_is). omega (arith, x_is, count-one))
        (λ before. let lt = a.below signal x before in omega (arith, lt, count-one))
        (known_cases signal x e);
  }
    where
      last_in : Contains (done ++ place ∷ []) place
      last_in = (length done, omega (arith, length_push done place), get_or_push done place place (length done) refl)

      before_in : (k : ℕ) → Contains done k → Contains (done ++ place ∷ []) k
      before_in k (i, lt, is) = (i, omega (arith, lt, length_push done place), get_or_append_left done (place ∷ []) k i lt ∙ is)

-- ---- all covers of a model

holds : (n : ℕ) (old new : List Step) (m : Model) (ins : List ℕ) (number : ℕ → Option ℕ) (done : List ℕ) → length ins ≡ length m.inputs → AreAdded n old new m ins number done → HoldsOf m (λ signal. IsSome (number signal)) done
holds n old new m ins number done many a = record {
  inputs = λ i lt. subst IsSome (sym (a.inputs i (omega (arith, lt, many)))) refl;
  covers = λ place cover there at. subst IsSome (sym (a.covers place cover there at).out) refl;
}

module _ (n : ℕ) (old steps : List Step) (m : Model) (is : IsModel m) (ins : List ℕ) (many : length ins ≡ length m.inputs) (number : ℕ → Option ℕ) (order : List ℕ) (ordered : IsOrder (dependency_graph m.covers) order) where
  -- a turn over the covers
  module _ (i : ℕ) (turn : i < length order) (a : AreAdded n old steps m ins number (take i order)) (cover : Cover) (at : cover ≡ get_or m.covers (get_or order i 0) cover) where
    pub turn_known : All (λ signal. IsSome (number signal)) cover.ins
    turn_known = turn_holds m is order ordered i turn (λ signal. IsSome (number signal)) cover at (holds n old steps m ins number (take i order) many a)

    pub turn_few : n + length old + length m.covers < 2 ^ 32 → n + length steps < 2 ^ 32
    turn_few few = omega (arith, few, a.count, turn, length-take i order, length-order m order ordered)

    pub turn_fresh : (x : ℕ) → number cover.out ≡ Some x → ⊥
    turn_fresh x e =
        let here : slice_get m.covers (get_or order i 0) ≡ Some cover = turn_done m is order ordered i turn cover at in
        ⊎_elim
        (λ lt. no_input m is (get_or order i 0) cover here (omega (arith, lt, many)))
        (λ (o : IsOutOf m (take i order) cover.out).
        let same : o.place ≡ get_or order i 0 = one_place m is (get_or order i 0) cover here o.place o.cover o.at o.out in
        let (k, lt, k_is) = o.is_done in
        let before : k < i = omega (arith, lt, length-take i order) in
        ordered.once k i 0 before turn (sym (get_or-take i order k 0 before) ∙ get_or_default (take i order) k 0 o.place lt ∙ k_is ∙ same))
        (a.only cover.out x e)

    pub turn_widths : All (λ row. length row ≡ length cover.ins) cover.rows
    turn_widths =
        let within : get_or order i 0 < length m.covers = turn_within m is order ordered i turn in
        subst (λ (c : Cover). All (λ row. length row ≡ length c.ins) c.rows) (sym at) (is.row_widths (get_or order i 0) cover within)

  -- once all are done
  module _ (a : AreAdded n old steps m ins number order) where
    pub outputs_known : All (λ signal. IsSome (number signal)) m.outputs
    outputs_known k d lt =
        holds_of_all m (λ signal. IsSome (number signal)) order (get_or m.outputs k d) is ordered (holds n old steps m ins number order many a) (is.outputs_driven k d lt)

    pub added-whole : (outs : List ℕ) → map Some outs ≡ map number m.outputs → AddsModel n old steps m ins outs
    added-whole outs found = record {
      number = number;
      numbered = record {
        inputs = ap (map number) is.inputs_in_order ∙ ap (λ k. map number (range_with_len 0 k)) (sym many) ∙ numbers_range 0 ins (λ k lt. ap number (zero-add k) ∙ a.inputs k lt);
        covers = λ cover (k, lt, at). a.covers k cover (ordered.every k (omega (arith, lt, length-map m.covers (λ (c : Cover). filter_map (driver_place m.covers) c.ins)))) (slice_get-get_or m.covers k cover lt ∙ ap Some at);
        outputs = sym found;
      };
      stay = a.stay;
      ordered = a.ordered;
      below = numbers_all number (λ x. x < n + length steps) a.below m.outputs outs (sym found);
      count = omega (arith, a.count, length-order m order ordered);
    }
      where
        numbers_range : (from : ℕ) (xs : List ℕ) → ((k : ℕ) → k < length xs → number (from + k) ≡ Some (get_or xs k 0)) → map number (range_with_len from (length xs)) ≡ map Some xs
        numbers_range from [] each = refl
        numbers_range from (x ∷ xs) each =
            let first : number from ≡ Some x = let e : from + 0 ≡ from = omega arith in ap number (sym e) ∙ each 0 (omega arith) in
            let rest = numbers_range (from + 1) xs (λ k lt. let e : from + 1 + k ≡ from + suc k = omega arith in ap number e ∙ each (suc k) (omega (arith, lt))) in
            λ i. first i ∷ rest i

-- ---- one model more

numbered-grows : (n : ℕ) (old new : List Step) (m : Model) (number : ℕ → Option ℕ) (ins outs : List ℕ) → Stay old new → IsNumbered n old m number ins outs → IsNumbered n new m number ins outs
numbered-grows n old new m number ins outs stay is = record {
  inputs = is.inputs;
  covers = λ cover there.
      let h : HasStep n old number cover = is.covers cover there in
      record { place = h.place; step = h.step; at = stay h.place h.step h.at; is = h.is; out = h.out; ins = h.ins };
  outputs = is.outputs;
}

pub chain-grows : (n : ℕ) (old new : List Step) (models : List Model) (ins outs : List ℕ) → Stay old new → AreNumbered n old models ins outs → AreNumbered n new models ins outs
chain-grows n old new [] ins outs stay is = is
chain-grows n old new (m ∷ models) ins outs stay (number, between, first, rest) =
    (number, between, numbered-grows n old new m number ins between stay first, chain-grows n old new models between outs stay rest)

pub chain-push : (n : ℕ) (steps : List Step) (models : List Model) (m : Model) (number : ℕ → Option ℕ) (ins between outs : List ℕ) → AreNumbered n steps models ins between → IsNumbered n steps m number between outs → AreNumbered n steps (models ++ m ∷ []) ins outs
chain-push n steps [] m number ins between outs same is = (number, outs, subst (λ l. IsNumbered n steps m number l outs) same is, refl)
chain-push n steps (first ∷ models) m number ins between outs (own, next, here, rest) is =
    (own, next, here, chain-push n steps models m number next between outs rest is)

-- each model has as many inputs as the one before it has outputs
joined_at : (models : List Model) (k : ℕ) (m next : Model) → AreJoined models → slice_get models k ≡ Some m → slice_get models (suc k) ≡ Some next → length next.inputs ≡ length m.outputs
joined_at [] k m next joined at after = absurd cc
joined_at (first ∷ []) k m next joined at after = absurd cc
joined_at (first ∷ second ∷ models) zero m next joined at after =
    let one : first ≡ m = cc in
    let two : second ≡ next = cc in
    ap (λ (x : Model). length x.inputs) (sym two) ∙ joined.0 ∙ ap (λ (x : Model). length x.outputs) one
joined_at (first ∷ second ∷ models) (suc k) m next joined at after = joined_at (second ∷ models) k m next joined.1 at after

-- how many covers and inputs there are
covers_sizes : (ms : List Model) → sum_by (λ (x : Model). length x.covers) ms ≤ sum_by size_of_model ms
covers_sizes [] = omega arith
covers_sizes (x ∷ ms) = omega (arith, sum_by-cons (λ (y : Model). length y.covers) x ms, sum_by-cons size_of_model x ms, covers_few x, covers_sizes ms)

width_size : (ms : List Model) → width_of ms ≤ sum_by size_of_model ms
width_size [] = omega arith
width_size (x ∷ ms) = omega (arith, sum_by-cons size_of_model x ms)

pub outputs_size : (ms : List Model) → outputs_of ms ≤ sum_by size_of_model ms
outputs_size [] = omega arith
outputs_size (x ∷ []) = omega (arith, sum_by-cons size_of_model x [])
outputs_size (x ∷ y ∷ ms) = omega (arith, sum_by-cons size_of_model x (y ∷ ms), outputs_size (y ∷ ms))

covers_up_to : (ms : List Model) (k : ℕ) (x : Model) → slice_get ms k ≡ Some x → sum_by (λ (y : Model). length y.covers) (take k ms) + length x.covers ≤ sum_by (λ (y : Model). length y.covers) ms
covers_up_to [] k x x_at = absurd cc
covers_up_to (y ∷ ms) zero x x_at =
    let same : y ≡ x = cc in
    omega (arith, sum_by-cons (λ (z : Model). length z.covers) y ms, ap (λ (z : Model). length z.covers) same)
covers_up_to (y ∷ ms) (suc k) x x_at =
    omega (arith, sum_by-cons (λ (z : Model). length z.covers) y ms, sum_by-cons (λ (z : Model). length z.covers) y (take k ms), covers_up_to ms k x x_at)

-- how far the models are done
pub record ModelsLoop (n : ℕ) (models : List Model) (steps : List Step) (outs : List ℕ) (place : ℕ) : Type 0 where
  pub numbered : AreNumbered n steps (take place models) (range_with_len 0 n) outs
  pub ordered : AreOrdered n steps
  pub below : All (λ x. x < n + length steps) outs
  pub wide : (m : Model) → slice_get models place ≡ Some m → length outs ≡ length m.inputs
  pub count : length steps ≡ sum_by (λ (m : Model). length m.covers) (take place models)

pub models-none : (n : ℕ) (models : List Model) (outs : List ℕ) → n ≡ width_of models → outs ≡ range_with_len 0 n → ModelsLoop n models [] outs 0
models-none n models outs wide is = record {
  numbered = is;
  ordered = record { before = λ j step at. absurd cc; widths = λ j step at. absurd cc };
  below = subst (All (λ x. x < n + 0)) (sym is) (λ k d lt. let within : k < n = omega (arith, lt, length-range_with_len 0 n) in omega (arith, within, get_or-range_with_len 0 n k d within));
  wide = λ m at. ap length is ∙ length-range_with_len 0 n ∙ wide ∙ first models m at;
  count = refl;
}
  where
    first : (ms : List Model) (m : Model) → slice_get ms 0 ≡ Some m → width_of ms ≡ length m.inputs
    first [] m at = absurd cc
    first (x ∷ ms) m at = ap (λ (y : Model). length y.inputs) (same_Some x m at)

module _ (n : ℕ) (models : List Model) (are : AreModels models) (steps : List Step) (outs : List ℕ) (place : ℕ) (m : Model) (at : slice_get models place ≡ Some m) (l : ModelsLoop n models steps outs place) where
  within : place < length models
  within = slice_get_within models place m at

  front : take (place + 1) models ≡ take place models ++ m ∷ []
  front = take_more models place m within ∙ ap (λ x. take place models ++ x ∷ []) (get_or_from_slice_get models place m m at)

  pub model_is : IsModel m
  model_is = subst IsModel (get_or_from_slice_get models place m m at) (are.each place m within)

  pub models-more : (new : List Step) (next : List ℕ) → AddsModel n steps new m outs next → ModelsLoop n models new next (place + 1)
  models-more new next adds = record {
    numbered = subst (λ ms. AreNumbered n new ms (range_with_len 0 n) next) (sym front)
        (chain-push n new (take place models) m adds.number (range_with_len 0 n) outs next (chain-grows n steps new (take place models) (range_with_len 0 n) outs adds.stay l.numbered) adds.numbered);
    ordered = adds.ordered;
    below = adds.below;
    wide = λ after after_at.
        let e : suc place ≡ place + 1 = omega arith in
        numbers_many adds.number m.outputs next adds.numbered.outputs ∙ sym (joined_at models place m after are.joined at (ap (slice_get models) e ∙ after_at));
    count = adds.count ∙ (λ i. l.count i + length m.covers) ∙ sym (ap (λ ms. sum_by (λ (x : Model). length x.covers) ms) front ∙ sum_by_push (λ (x : Model). length x.covers) (take place models) m);
  }

  pub models-few : n ≡ width_of models → n + length steps + length m.covers < 2 ^ 32
  models-few wide =
      let so_far = covers_up_to models place m at in
      let sizes = covers_sizes models in
      let first = width_size models in
      omega (arith, l.count, so_far, sizes, first, wide, are.small)

pub models-end : (n : ℕ) (models : List Model) (steps : List Step) (outs : List ℕ) (place : ℕ) → AreModels models → n ≡ width_of models → length models ≤ place → ModelsLoop n models steps outs place → AreInRow models steps outs
models-end n models steps outs place are wide past l =
    let w : ℕ = width_of models in
    let all : take place models ≡ models = take_all place models past in
    let done : ModelsLoop w models steps outs place = subst (λ k. ModelsLoop k models steps outs place) wide l in
    let own : length steps ≡ sum_by (λ (x : Model). length x.covers) models = done.count ∙ ap (λ ms. sum_by (λ (x : Model). length x.covers) ms) all in
    let sizes = covers_sizes models in
    let first = width_size models in
    record {
      are_models = are;
      numbered = subst (λ ms. AreNumbered w steps ms (range_with_len 0 w) outs) all done.numbered;
      ordered = done.ordered;
      below = done.below;
      few = omega (arith, own, sizes, first, are.small);
    }

-- as many numbers of outputs as the last model has outputs
pub outs_many : (n : ℕ) (steps : List Step) (models : List Model) (ins outs : List ℕ) → AreNumbered n steps models ins outs → 0 < length models → length outs ≡ outputs_of models
outs_many n steps [] ins outs is some = absurd (omega (arith, some))
outs_many n steps (m ∷ []) ins outs (number, between, here, rest) some = ap length rest ∙ numbers_many number m.outputs between here.outputs
outs_many n steps (m ∷ next ∷ models) ins outs (number, between, here, rest) some = outs_many n steps (next ∷ models) between outs rest (omega arith)
