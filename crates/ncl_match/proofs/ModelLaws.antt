-- The functions of the signals that count for an output: they are listed, and their tables are held once all are made.
pub use Rattle.ncl_match.proofs.Terms.{[], All, All-append, All-contains, All-from_members, All-head, All-left, All-member, All-nil, All-right, All-tail, AreHeld, AreInRow, AreModels, AreNeeded, AreNumbered, AreOrdered, Assigns, Bool, Circuit, Contains, Contains-from_slice_get, Cover, Err, Fits, Gathers, HasFunction, HasSignal, HasStep, HaveBits, HaveSignals, HaveSteps, HoldsSignals, IsHeld, IsListed, IsModel, IsSpace, Keeps, List, Lit, Model, None, Option, Overflows, Pair, SignalCounts, Some, SpaceData, Step, WordFunction, ap, arith, bit_at, bit_function, both_tables, by_cover, by_position, cases_lt, computes_one, cover_tables, cut_at, drop, false, false≢true, first_tables, fits, fits_agree, functions_read, gathered, get_or, get_or-take, get_or_default, get_or_past, handed_on, if◌then◌else◌, inverse, is_output, keeps_along, length, length-take, list_any, map, map-agree_on, outputs_of, pair_at, range_with_len, recursion_from_All, refl, row_function, row_matches, row_tables, rows_function, rules, same_Some, signal_function, signals_of, slice_get, slice_get-some, slice_get_within, step_tables, subst, subst₂, suc, sym, table_of, table_of-same, tables_of_step, take, true, turn_tables, values_of, width_of, with_tables, words, zero, ℕ, ⊎_elim, ◌+◌, ◌<◌, ◌∙◌, ◌∷◌, ◌≡◌, ◌≤◌}
pub use Rattle.ncl_match.proofs.StepLaws.{outputs_size, outs_many}
use Rattle.ncl_match.proofs.NetlistLaws.{both-listed, gathered-all, gathers-more, has-held, made-held, overflows-after, same-function, same-held}
use Rattle.ncl_match.proofs.SignalLaws.{HasRoot, IsCounted, assigns_at, at_place, bit-function, bits-front, bits-map, bits_of, counted-marked, driven, has_root, input, member-gathered, model_at, needed-counted, number, value_of, values-map}
use Rattle.ncl_match.specs.Listed as listed

-- ---- tables that were made are held

-- what holds of all that turns give holds of what each gives
gathered-each : {X : Type 0} (P : X → Type 0) (turn : ℕ → List X) (m j : ℕ) → j < m → All P (gathered turn m) → All P (turn j)
gathered-each P turn m j lt all = All-from_members P (turn j) (λ x has. All-member P (gathered turn m) all x (member-gathered turn m j x lt has))

tables-held : (old now : SpaceData) (ts : List (List Bool)) → now.width ≡ old.width → now.held ≡ with_tables old ts → All (IsHeld now) ts
tables-held old now ts wide held k d lt =
    made-held old now (take k ts) (drop (k + 1) ts) (get_or ts k d) wide (held ∙ ap (with_tables old) (cut_at ts k d lt))

both-held : (s : SpaceData) (n : ℕ) (f : WordFunction) → s.width ≡ n → All (IsHeld s) (both_tables n f) → AreHeld s f
both-held s n f wide all =
    let one : List Bool = table_of (words n) f in
    let zero_table : List Bool = table_of (words n) (inverse f) in
    record {
      one = subst (λ k. IsHeld s (table_of (words k) f)) (sym wide) (All-head (IsHeld s) one (zero_table ∷ []) all);
      zero = subst (λ k. IsHeld s (table_of (words k) (inverse f))) (sym wide) (All-head (IsHeld s) zero_table [] (All-tail (IsHeld s) one (zero_table ∷ []) all));
    }

-- what is marked has a place among the marks
mark-within : (marks : List Bool) (x : ℕ) → bit_at marks x ≡ true → x < length marks
mark-within marks x mark =
    ⊎_elim (λ lt. lt) (λ past. absurd (false≢true (sym (get_or_past marks x false (omega (arith, past))) ∙ mark))) (cases_lt x (length marks))

module _ (c : Circuit) (models : List Model) (are : AreModels models) (wide : length c.inputs ≡ width_of models) (steps : List Step) (outs : List ℕ) (is : AreNumbered (length c.inputs) steps models (range_with_len 0 (length c.inputs)) outs) (ordered : AreOrdered (length c.inputs) steps) (output : ℕ) (within : output < length outs) (marks : List Bool) (needed : AreNeeded (length c.inputs) steps (get_or outs output 0) marks 0) where
  abbrev n : ℕ
  n = length c.inputs

  abbrev at_number : ℕ → ℕ → Option ℕ
  at_number k signal = number models are n wide steps outs is ordered k signal

  abbrev Is : List Bool → Type 0
  Is = IsListed c models output

  counted : (x : ℕ) → bit_at marks x ≡ true → IsCounted n steps models at_number output x
  counted x mark = needed-counted models are n wide steps outs is ordered output within x (needed.needed x mark)

  marked : (k signal : ℕ) → SignalCounts models output k signal → (x : ℕ) × (at_number k signal ≡ Some x) × (bit_at marks x ≡ true)
  marked k signal counts = counted-marked models are n wide steps outs is ordered output within marks needed k signal counts

  assigns : (k : ℕ) (m : Model) → slice_get models k ≡ Some m → Assigns n models k m (bits_of steps (at_number k))
  assigns k m at = assigns_at models are n wide steps outs is ordered k m at

  -- ---- what is made is listed

  first-listed : (x : ℕ) → x < n → IsCounted n steps models at_number output x → All Is (both_tables n (bit_function x))
  first-listed x lt (input _ below counts own) =
      let (m, at) = slice_get-some models 0 are.some in
      both-listed c models output (bit_function x)
      (subst Is (table_of-same n (λ w. bits_of steps (at_number 0) w x) (bit_function x) (λ w long. ap (value_of steps w) own ∙ bits-front w steps x (omega (arith, lt, long))))
      (listed.signal 0 m (bits_of steps (at_number 0)) x (assigns 0 m at) counts))
  first-listed x lt (driven _ j s k m x_is s_at at in_covers ins own counts) = absurd (omega (arith, lt, x_is))

  pub bits-listed : All Is (gathered (first_tables n marks) n)
  bits-listed = gathered-all Is (first_tables n marks) n (λ x lt. by x lt (bit_at marks x) refl)
    where
      by : (x : ℕ) → x < n → (mark : Bool) → bit_at marks x ≡ mark → All Is (if mark then both_tables n (bit_function x) else [])
      by x lt true e = first-listed x lt (counted x e)
      by x lt false e = All-nil Is

  -- the values that a step reads
  read-values : (k : ℕ) (s : Step) (w : List Bool) → map (at_number k) s.cover.now.ins ≡ map Some s.ins → values_of (functions_read steps s) w ≡ map (bits_of steps (at_number k) w) s.cover.now.ins
  read-values k s w ins =
      values-map (signal_function steps) s.ins w ∙ sym (bits-map steps (at_number k) w s.cover.now.ins s.ins ins)

  module _ (k : ℕ) (m : Model) (s : Step) (at : slice_get models k ≡ Some m) (in_covers : Contains m.covers s.cover.now) (ins : map (at_number k) s.cover.now.ins ≡ map Some s.ins) (counts : SignalCounts models output k s.cover.now.out) where
    abbrev own_rows : List (List Lit)
    own_rows = s.cover.now.rows

    abbrev own_fs : List WordFunction
    own_fs = functions_read steps s

    abbrev own_bits : List Bool → ℕ → Bool
    own_bits = bits_of steps (at_number k)

    row-listed : (row : List Lit) → Contains own_rows row → All Is (row_tables n own_fs row)
    row-listed row in_rows =
        gathered-all Is (λ l. both_tables n (row_function own_fs (take (suc l) row))) (length row) (λ l l_lt.
        both-listed c models output (row_function own_fs (take (suc l) row))
        (subst Is
        (table_of-same n (λ w. row_matches (map (own_bits w) s.cover.now.ins) (take (suc l) row)) (row_function own_fs (take (suc l) row)) (λ w long. ap (λ vs. row_matches vs (take (suc l) row)) (sym (read-values k s w ins))))
        (listed.row k m own_bits s.cover.now row (suc l) (assigns k m at) counts in_covers in_rows (omega arith) (omega (arith, l_lt)))))

    cover-listed : All Is (cover_tables n own_fs own_rows)
    cover-listed =
        gathered-all Is (turn_tables n own_fs own_rows) (length own_rows) (λ r lt.
        All-append Is (row_tables n own_fs (get_or own_rows r [])) (both_tables n (rows_function own_fs (take (suc r) own_rows)))
        (row-listed (get_or own_rows r []) (r, lt, get_or_default own_rows r (get_or own_rows r []) [] lt))
        (both-listed c models output (rows_function own_fs (take (suc r) own_rows))
        (subst Is
        (table_of-same n (λ w. list_any (row_matches (map (own_bits w) s.cover.now.ins)) (take (suc r) own_rows)) (rows_function own_fs (take (suc r) own_rows)) (λ w long. ap (λ vs. list_any (row_matches vs) (take (suc r) own_rows)) (sym (read-values k s w ins))))
        (listed.rows k m own_bits s.cover.now (suc r) (assigns k m at) counts in_covers (omega arith) (omega (arith, lt))))))

  step-listed : (j : ℕ) (s : Step) → slice_get steps j ≡ Some s → (y : ℕ) → y ≡ n + j → IsCounted n steps models at_number output y → All Is (cover_tables n (functions_read steps s) s.cover.now.rows)
  step-listed j s s_at y y_is (input _ lt counts own) = absurd (omega (arith, lt, y_is))
  step-listed j s s_at y y_is (driven _ j2 s2 k m y_is2 s2_at at in_covers ins own counts) =
      let same_place : j2 ≡ j = omega (arith, y_is, y_is2) in
      let same : s2 ≡ s = same_Some s2 s (sym s2_at ∙ ap (slice_get steps) same_place ∙ s_at) in
      subst (λ (z : Step). All Is (cover_tables n (functions_read steps z) z.cover.now.rows)) same (cover-listed k m s2 at in_covers ins counts)

  pub steps-listed : All Is (gathered (step_tables n steps marks) (length steps))
  steps-listed = gathered-all Is (step_tables n steps marks) (length steps) (λ j lt. by j (slice_get steps j) refl)
    where
      by_mark : (j : ℕ) (s : Step) → slice_get steps j ≡ Some s → (mark : Bool) → bit_at marks (n + j) ≡ mark → All Is (if mark then cover_tables n (functions_read steps s) s.cover.now.rows else [])
      by_mark j s at true e = step-listed j s at (n + j) refl (counted (n + j) e)
      by_mark j s at false e = All-nil Is

      by : (j : ℕ) (found : Option Step) → slice_get steps j ≡ found → All Is (tables_of_step n steps marks (n + j) found)
      by j None e = All-nil Is
      by j (Some s) e = by_mark j s e (bit_at marks (n + j)) refl

  -- what a cover reads is a signal of its model
  read-there : (k : ℕ) (m : Model) (cover : Cover) → slice_get models k ≡ Some m → Contains m.covers cover → (signal : ℕ) → Contains cover.ins signal → Contains (signals_of m) signal
  read-there k m cover at in_covers signal read =
      All-contains (λ s. Contains (signals_of m) s) cover.ins signal
      (All-contains (λ (x : Cover). All (λ s. Contains (signals_of m) s) x.ins) m.covers cover (model_at models are n wide steps outs is ordered k m at).reads_driven in_covers) read

  -- ---- the bits of any assignment are those of the row

  same-bits : (k : ℕ) (m : Model) (bits : List Bool → ℕ → Bool) → Assigns n models k m bits → (w : List Bool) → length w ≡ n → (signal : ℕ) → Contains (signals_of m) signal → bits_of steps (at_number k) w signal ≡ bits w signal
  same-bits k m bits given w long signal there =
      let (mine, my_computes, my_fits) = (assigns k m given.at).fits w long in
      let (other, computes, fits) = given.fits w long in
      let fronts : All IsModel (take k models) = λ i d lt.
      let before : i < k = omega (arith, lt, length-take k models) in
      subst IsModel (sym (get_or-take k models i d before)) (are.each i d (omega (arith, lt, length-take k models))) in
      let one : mine ≡ other = computes_one (take k models) (recursion_from_All IsModel (take k models) fronts) w mine other my_computes computes in
      All-contains (λ s. bits_of steps (at_number k) w s ≡ bits w s) (signals_of m) signal
      (fits_agree m (model_at models are n wide steps outs is ordered k m given.at) other (bits_of steps (at_number k) w) (bits w) (subst (λ b. Fits m b (bits_of steps (at_number k) w)) one my_fits) fits) there

  -- ---- what is there once all are made

  module _ (old now : SpaceData) (pairs : List Pair) (old_wide : old.width ≡ n) (now_wide : now.width ≡ old.width) (space : IsSpace now) (held : now.held ≡ with_tables old (gathered (step_tables n steps marks) (length steps))) (have : HaveSignals now steps marks pairs (n + length steps)) where
    has-number : (x : ℕ) → bit_at marks x ≡ true → HasFunction now (pair_at pairs x) (signal_function steps x)
    has-number x mark = have x (let lt = mark-within marks x mark in omega (arith, lt, needed.many)) mark

    long-word : (w : List Bool) → length w ≡ now.width → length w ≡ n
    long-word w e = e ∙ now_wide ∙ old_wide

    -- what counts is a signal of its model
    counts-there : (k : ℕ) (m : Model) (signal : ℕ) → slice_get models k ≡ Some m → SignalCounts models output k signal → Contains (signals_of m) signal
    counts-there _ m signal at (is_output k m2 _ last at2 out_at) =
        let same : m2 ≡ m = same_Some m2 m (sym at2 ∙ at) in
        All-contains (λ s. Contains (signals_of m) s) m.outputs signal (model_at models are n wide steps outs is ordered k m at).outputs_driven
        (subst (λ (x : Model). Contains x.outputs signal) same (Contains-from_slice_get m2.outputs output signal out_at))
    counts-there _ m signal at (by_cover k m2 cover _ at2 in_covers read counts) =
        let same : m2 ≡ m = same_Some m2 m (sym at2 ∙ at) in
        read-there k m cover at (subst (λ (x : Model). Contains x.covers cover) same in_covers) signal read
    counts-there _ m signal at (by_position k j m2 next _ from at2 after out_at in_at counts) =
        let same : m2 ≡ m = same_Some m2 m (sym at2 ∙ at) in
        All-contains (λ s. Contains (signals_of m) s) m.outputs signal (model_at models are n wide steps outs is ordered k m at).outputs_driven
        (subst (λ (x : Model). Contains x.outputs signal) same (Contains-from_slice_get m2.outputs j signal out_at))

    signal-held : (k : ℕ) (m : Model) (bits : List Bool → ℕ → Bool) (signal : ℕ) → Assigns n models k m bits → SignalCounts models output k signal → AreHeld now (λ w. bits w signal)
    signal-held k m bits signal given counts =
        let (x, known, mark) = marked k signal counts in
        same-held now (signal_function steps x) (λ w. bits w signal)
        (λ w e. ap (value_of steps w) (sym known) ∙ same-bits k m bits given w (long-word w e) signal (counts-there k m signal given.at counts))
        (has-held now (pair_at pairs x) (signal_function steps x) space (has-number x mark))

    module _ (k : ℕ) (m : Model) (bits : List Bool → ℕ → Bool) (cover : Cover) (given : Assigns n models k m bits) (counts : SignalCounts models output k cover.out) (in_covers : Contains m.covers cover) where
      has : HasStep n steps (at_number k) cover
      has = (at_place models are n wide steps outs is ordered k m given.at).numbered.covers cover in_covers

      abbrev fs : List WordFunction
      fs = functions_read steps has.step

      cover-held : All (IsHeld now) (cover_tables n fs cover.rows)
      cover-held =
          let (x, known, mark) = marked k cover.out counts in
          let x_is : x ≡ n + has.place = same_Some x (n + has.place) (sym known ∙ has.out) in
          let own_mark : bit_at marks (n + has.place) ≡ true = ap (bit_at marks) (sym x_is) ∙ mark in
          let each = gathered-each (IsHeld now) (step_tables n steps marks) (length steps) has.place (slice_get_within steps has.place has.step has.at) (tables-held old now (gathered (step_tables n steps marks) (length steps)) now_wide held) in
          let found : All (IsHeld now) (tables_of_step n steps marks (n + has.place) (Some has.step)) = subst (λ o. All (IsHeld now) (tables_of_step n steps marks (n + has.place) o)) has.at each in
          let made : All (IsHeld now) (cover_tables n fs has.step.cover.now.rows) = subst (λ b. All (IsHeld now) (if b then cover_tables n fs has.step.cover.now.rows else [])) own_mark found in
          subst (λ (z : Cover). All (IsHeld now) (cover_tables n fs z.rows)) has.is made

      cover-values : (w : List Bool) → length w ≡ n → values_of fs w ≡ map (bits w) cover.ins
      cover-values w long =
          values-map (signal_function steps) has.step.ins w
          ∙ sym (bits-map steps (at_number k) w cover.ins has.step.ins has.ins)
          ∙ map-agree_on (bits_of steps (at_number k) w) (bits w) cover.ins (λ signal read. same-bits k m bits given w long signal (read-there k m cover given.at in_covers signal read))

      row-held : (row : List Lit) (i : ℕ) → Contains cover.rows row → 1 ≤ i → i ≤ length row → AreHeld now (λ w. row_matches (map (bits w) cover.ins) (take i row))
      row-held row zero in_rows some most = absurd (omega (arith, some))
      row-held row (suc l) (r, lt, r_is) some most =
          let turn = gathered-each (IsHeld now) (turn_tables n fs cover.rows) (length cover.rows) r lt cover-held in
          let row_is : get_or cover.rows r [] ≡ row = get_or_default cover.rows r [] row lt ∙ r_is in
          let own : All (IsHeld now) (row_tables n fs row) =
          subst (λ z. All (IsHeld now) (row_tables n fs z)) row_is (All-left (IsHeld now) (row_tables n fs (get_or cover.rows r [])) (both_tables n (rows_function fs (take (suc r) cover.rows))) turn) in
          let both = gathered-each (IsHeld now) (λ j. both_tables n (row_function fs (take (suc j) row))) (length row) l (omega (arith, most)) own in
          same-held now (row_function fs (take (suc l) row)) (λ w. row_matches (map (bits w) cover.ins) (take (suc l) row))
          (λ w e. ap (λ vs. row_matches vs (take (suc l) row)) (cover-values w (long-word w e)))
          (both-held now n (row_function fs (take (suc l) row)) (now_wide ∙ old_wide) both)

      rows-held : (i : ℕ) → 1 ≤ i → i ≤ length cover.rows → AreHeld now (λ w. list_any (row_matches (map (bits w) cover.ins)) (take i cover.rows))
      rows-held zero some most = absurd (omega (arith, some))
      rows-held (suc r) some most =
          let turn = gathered-each (IsHeld now) (turn_tables n fs cover.rows) (length cover.rows) r (omega (arith, most)) cover-held in
          let both = All-right (IsHeld now) (row_tables n fs (get_or cover.rows r [])) (both_tables n (rows_function fs (take (suc r) cover.rows))) turn in
          same-held now (rows_function fs (take (suc r) cover.rows)) (λ w. list_any (row_matches (map (bits w) cover.ins)) (take (suc r) cover.rows))
          (λ w e. ap (λ vs. list_any (row_matches vs) (take (suc r) cover.rows)) (cover-values w (long-word w e)))
          (both-held now n (rows_function fs (take (suc r) cover.rows)) (now_wide ∙ old_wide) both)

    pub signals-held : HoldsSignals now c models output
    signals-held = record {
      signals = λ k m bits signal given counts. signal-held k m bits signal given counts;
      rows = λ k m bits cover row i given counts in_covers in_rows some most. row-held k m bits cover given counts in_covers row i in_rows some most;
      covers = λ k m bits cover i given counts in_covers some most. rows-held k m bits cover given counts in_covers i some most;
    }

    pub signal-had : HasSignal now (pair_at pairs (get_or outs output 0)) c models output
    signal-had =
        let r : HasRoot models at_number output (get_or outs output 0) = has_root models are n wide steps outs is ordered output within in
        let x : ℕ = get_or outs output 0 in
        record {
          g = signal_function steps x;
          is = record {
            place = r.place;
            last = r.last;
            model = r.model;
            bits = bits_of steps (at_number r.place);
            assigns = assigns r.place r.model r.at;
            signal = r.signal;
            driven = r.driven;
            bit = λ w long. ap (value_of steps w) (sym r.is_root);
          };
          has = has-number x needed.root_too;
        }

-- ---- the same at the width of the models

-- inputs that have their functions have them as signals
pub bits-signals : (old mid : SpaceData) (steps : List Step) (marks : List Bool) (pairs : List Pair) (n : ℕ) → mid.width ≡ n → HaveBits old mid marks pairs n → HaveSignals mid steps marks pairs mid.width
bits-signals old mid steps marks pairs n wide h x lt mark =
    same-function mid (pair_at pairs x) (bit_function x) (signal_function steps x) (λ w long. bit-function n steps x (omega (arith, lt, wide)) w (long ∙ wide)) (h.have x (omega (arith, lt, wide)) mark)

-- an output of the models has a number
pub output-inside : (models : List Model) (steps : List Step) (outs : List ℕ) (output : ℕ) → AreInRow models steps outs → output < outputs_of models → output < length outs
output-inside models steps outs output row within =
    let many = outs_many (width_of models) steps models (range_with_len 0 (width_of models)) outs row.numbered row.are_models.some in
    omega (arith, many, within)

module _ (models : List Model) (steps : List Step) (outs : List ℕ) (row : AreInRow models steps outs) (output : ℕ) (within : output < outputs_of models) (marks : List Bool) (needed : AreNeeded (width_of models) steps (get_or outs output 0) marks 0) (c : Circuit) (wide : length c.inputs ≡ width_of models) (old : SpaceData) (old_wide : old.width ≡ width_of models) where
  are : AreModels models
  are = row.are_models

  inside : output < length outs
  inside = output-inside models steps outs output row within

  own_numbered : AreNumbered (length c.inputs) steps models (range_with_len 0 (length c.inputs)) outs
  own_numbered = subst (λ k. AreNumbered k steps models (range_with_len 0 k) outs) (sym wide) row.numbered

  own_ordered : AreOrdered (length c.inputs) steps
  own_ordered = subst (λ k. AreOrdered k steps) (sym wide) row.ordered

  own_needed : AreNeeded (length c.inputs) steps (get_or outs output 0) marks 0
  own_needed = subst (λ k. AreNeeded k steps (get_or outs output 0) marks 0) (sym wide) needed

  old_is : old.width ≡ length c.inputs
  old_is = old_wide ∙ sym wide

  abbrev Listed : List Bool → Type 0
  Listed = IsListed c models output

  first-tables-listed : All Listed (gathered (first_tables old.width marks) (width_of models))
  first-tables-listed =
      subst (λ k. All Listed (gathered (first_tables old.width marks) k)) wide
      (subst (λ k. All Listed (gathered (first_tables k marks) (length c.inputs))) (sym old_is) (bits-listed c models are wide steps outs own_numbered own_ordered output inside marks own_needed))

  pub bits-overflow : fits old (gathered (first_tables old.width marks) (width_of models)) ≡ false → Overflows Listed old
  bits-overflow full = record { tables = gathered (first_tables old.width marks) (width_of models); each = first-tables-listed; over = full }

  module _ (mid : SpaceData) (first : List Pair) (kept : Keeps old mid) (h : HaveBits old mid marks first (width_of models)) where
    bits-gather : Gathers Listed old mid
    bits-gather = record { tables = gathered (first_tables old.width marks) (width_of models); each = first-tables-listed; held = h.held }

    mid_is : mid.width ≡ length c.inputs
    mid_is = kept.width ∙ old_is

    step-tables-listed : All Listed (gathered (step_tables mid.width steps marks) (length steps))
    step-tables-listed =
        subst (λ k. All Listed (gathered (step_tables k steps marks) (length steps))) (sym mid_is) (steps-listed c models are wide steps outs own_numbered own_ordered output inside marks own_needed)

    pub steps-overflow : fits mid (gathered (step_tables mid.width steps marks) (length steps)) ≡ false → Overflows Listed old
    steps-overflow full =
        overflows-after Listed old mid (gathered (step_tables mid.width steps marks) (length steps)) bits-gather kept step-tables-listed full

    module _ (new : SpaceData) (pairs : List Pair) (later : Keeps mid new) (s : HaveSteps mid new steps marks pairs (length steps)) where
      pub steps-gather : Gathers Listed old new
      steps-gather = gathers-more Listed old mid new (gathered (step_tables mid.width steps marks) (length steps)) bits-gather kept step-tables-listed s.held

      own_held : new.held ≡ with_tables mid (gathered (step_tables (length c.inputs) steps marks) (length steps))
      own_held = s.held ∙ ap (λ k. with_tables mid (gathered (step_tables k steps marks) (length steps))) mid_is

      own_have : HaveSignals new steps marks pairs (length c.inputs + length steps)
      own_have = subst (λ k. HaveSignals new steps marks pairs (k + length steps)) mid_is s.have

      pub all-held : HoldsSignals new c models output
      all-held = signals-held c models are wide steps outs own_numbered own_ordered output inside marks own_needed mid new pairs mid_is later.width later.space own_held own_have

      pub output-had : HasSignal new (pair_at pairs (get_or outs output 0)) c models output
      output-had = signal-had c models are wide steps outs own_numbered own_ordered output inside marks own_needed mid new pairs mid_is later.width later.space own_held own_have
