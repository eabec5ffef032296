-- What a model by numbers is, where the model by names has no fault.
use Rattle.ncl_blif.proofs.Terms.{All, All-map, Contains, Cover, Depends, IsCyclic, IsDistinct, IsDistinct-from_apart, IsFaultless, IsModel, List, NamedCover, NamedModel, NamedOutput, None, ap, arith, bytes_eq, cases_lt, drivers_of, get_or, get_or-append-add, get_or-map, get_or-range_with_len, get_or_append_left, is_driven, length, length-append, length-map, length-range_with_len, ltb-true, map, most_size, nat_eq, ne_eqb, not, not-false, numbered_cover, numbered_model, range_with_len, signal_number, signals_of, size_of_model, slice_get-get_or, subst, sym, true, undriven_line, ℕ, ⊎_elim, ◌++◌, ◌+◌, ◌-◌, ◌<◌, ◌∙◌, ◌≡◌, ◌≤◌}
use Rattle.ncl_blif.proofs.Anys.{each_fails}
use Rattle.ncl_blif.proofs.DependenceLaws.{driver_of_dependent}
use Rattle.ncl_blif.proofs.Places.{any-place}
use Rattle.ncl_blif.proofs.NumberedLaws.{no_cover, no_numbers, out-numbered, outputs_driven, covers_driven}

-- how many signals have a driver
signals_count : (m : NamedModel) → length (signals_of (numbered_model m)) ≡ length m.inputs + length m.covers
signals_count m =
    length-append (range_with_len 0 (length m.inputs)) (map (λ (cover : Cover). cover.out) (map (numbered_cover m) m.covers))
    ∙ ap (λ n. n + length (map (λ (cover : Cover). cover.out) (map (numbered_cover m) m.covers))) (length-range_with_len 0 (length m.inputs))
    ∙ ap (λ n. length m.inputs + n) (length-map (map (numbered_cover m) m.covers) (λ (cover : Cover). cover.out) ∙ length-map m.covers (numbered_cover m))

drivers_count : (m : NamedModel) → length (drivers_of m) ≡ length m.inputs + length m.covers
drivers_count m = length-append m.inputs (map (λ (cover : NamedCover). cover.out) m.covers) ∙ ap (λ n. length m.inputs + n) (length-map m.covers (λ (cover : NamedCover). cover.out))

-- the signals that have a driver are 0, 1, 2 and so on
signal_at : (m : NamedModel) → IsDistinct bytes_eq (drivers_of m) → (k d : ℕ) → k < length m.inputs + length m.covers → get_or (signals_of (numbered_model m)) k d ≡ k
signal_at m differ k d within =
    let firsts = range_with_len 0 (length m.inputs) in
    let outs = map (λ (cover : Cover). cover.out) (map (numbered_cover m) m.covers) in
    let n : length firsts ≡ length m.inputs = length-range_with_len 0 (length m.inputs) in
    ⊎_elim
    (λ low. let own : 0 + k ≡ k = omega arith in get_or_append_left firsts outs d k (omega arith) ∙ get_or-range_with_len 0 (length m.inputs) k d low ∙ own)
    (λ high.
    let j : ℕ = k - length m.inputs in
    let at : k ≡ length firsts + j = omega arith in
    let inside : j < length m.covers = omega arith in
    let many : length (map (numbered_cover m) m.covers) ≡ length m.covers = length-map m.covers (numbered_cover m) in
    ap (λ i. get_or (firsts ++ outs) i d) at ∙ get_or-append-add firsts outs j d
    ∙ get_or-map (λ (cover : Cover). cover.out) (map (numbered_cover m) m.covers) j no_numbers d (omega arith)
    ∙ out-numbered m differ j no_numbers no_cover inside ∙ omega arith)
    (cases_lt k (length m.inputs))

-- a number below the count of drivers is a signal
signal_among : (m : NamedModel) → IsDistinct bytes_eq (drivers_of m) → (k : ℕ) → k < length (drivers_of m) → Contains (signals_of (numbered_model m)) k
signal_among m differ k within =
    let below : k < length m.inputs + length m.covers = omega (arith, drivers_count m) in
    (k, omega (arith, signals_count m), signal_at m differ k k below)

-- a signal with a driver has a number that is a signal
driven_among : (m : NamedModel) → IsDistinct bytes_eq (drivers_of m) → (name : List ℕ) → is_driven m name ≡ true → Contains (signals_of (numbered_model m)) (signal_number m name)
driven_among m differ name driven = signal_among m differ (signal_number m name) (ltb-true _ _ (sym (any-place (bytes_eq name) (drivers_of m)) ∙ driven))

-- no two numbers are the same
one_driver_each : (m : NamedModel) → IsDistinct bytes_eq (drivers_of m) → IsDistinct nat_eq (signals_of (numbered_model m))
one_driver_each m differ = IsDistinct-from_apart nat_eq (signals_of (numbered_model m)) (λ i j d before within.
    let many = signals_count m in
    let a : get_or (signals_of (numbered_model m)) i d ≡ i = signal_at m differ i d (omega arith) in
    let b : get_or (signals_of (numbered_model m)) j d ≡ j = signal_at m differ j d (omega arith) in
    ap (λ x. nat_eq x (get_or (signals_of (numbered_model m)) j d)) a ∙ ap (nat_eq i) b ∙ ne_eqb i j (λ same. omega arith))

reads_among : (m : NamedModel) → IsDistinct bytes_eq (drivers_of m) → undriven_line m ≡ None
    → All (λ (cover : Cover). All (λ signal. Contains (signals_of (numbered_model m)) signal) cover.ins) (numbered_model m).covers
reads_among m differ none =
    let Among : ℕ → Type 0 = λ signal. Contains (signals_of (numbered_model m)) signal in
    All-map (λ (cover : Cover). All Among cover.ins) (numbered_cover m) m.covers (λ k d within.
    let cover = get_or m.covers k d in
    All-map Among (signal_number m) cover.ins (λ j e inside.
    driven_among m differ (get_or cover.ins j e)
    (not-false _ (each_fails (λ name. not (is_driven m name)) cover.ins (covers_driven m none k d within) j e inside))))

outputs_among : (m : NamedModel) → IsDistinct bytes_eq (drivers_of m) → undriven_line m ≡ None
    → All (λ signal. Contains (signals_of (numbered_model m)) signal) (numbered_model m).outputs
outputs_among m differ none =
    All-map (λ signal. Contains (signals_of (numbered_model m)) signal) (λ (output : NamedOutput). signal_number m output.signal) m.outputs
    (λ k d within. driven_among m differ (get_or m.outputs k d).signal (outputs_driven m none k d within))

-- no signal depends on itself, where no cover's output does
acyclic : (m : NamedModel) → ((place : ℕ) → IsCyclic m place → ⊥) → (signal : ℕ) → Depends (numbered_model m) signal signal → ⊥
acyclic m none signal depends =
    let (k, inside, is) = driver_of_dependent (numbered_model m) signal signal depends no_numbers in
    let within : k < length m.covers = omega (arith, length-map m.covers (numbered_cover m)) in
    let same : signal ≡ signal_number m (get_or m.covers k no_cover).out =
    sym is ∙ ap (λ (cover : Cover). cover.out) (get_or-map (numbered_cover m) m.covers k no_cover no_numbers within) in
    none k (get_or m.covers k no_cover, slice_get-get_or m.covers k no_cover within, subst (λ s. Depends (numbered_model m) s s) same depends)

-- each row of a model by names has as many literals as its cover reads signals
abbrev pub RowsFit : NamedModel → Type 0
RowsFit m = All (λ (cover : NamedCover). All (λ row. length row ≡ length cover.ins) cover.rows) m.covers

rows_fit : (m : NamedModel) → RowsFit m → All (λ (cover : Cover). All (λ row. length row ≡ length cover.ins) cover.rows) (numbered_model m).covers
rows_fit m fit = All-map (λ (cover : Cover). All (λ row. length row ≡ length cover.ins) cover.rows) (numbered_cover m) m.covers (λ k d within j e inside.
    fit k d within j e inside ∙ sym (length-map (get_or m.covers k d).ins (signal_number m)))

-- a faultless model by names is a model by numbers
pub IsModel-numbered : (m : NamedModel) → IsDistinct bytes_eq (drivers_of m) → RowsFit m → IsFaultless m → size_of_model (numbered_model m) ≤ most_size → IsModel (numbered_model m)
IsModel-numbered m differ fit fine small =
    let inputs : length (range_with_len 0 (length m.inputs)) ≡ length m.inputs = length-range_with_len 0 (length m.inputs) in
    let outputs : length (numbered_model m).outputs ≡ length m.outputs = length-map m.outputs (λ (output : NamedOutput). signal_number m output.signal) in
    record {
      has_input = omega (arith, fine.bits.0);
      has_output = omega (arith, fine.bits.1);
      inputs_in_order = ap (range_with_len 0) (sym inputs);
      one_driver = one_driver_each m differ;
      reads_driven = reads_among m differ fine.driven;
      outputs_driven = outputs_among m differ fine.driven;
      no_cycle = acyclic m fine.no_cycle;
      row_widths = rows_fit m fit;
      small = small;
    }
