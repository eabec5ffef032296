-- What the row of a cell tells: whether the cell is excited, and its delay.
pub use Rattle.ncl_sim.proofs.Terms.{All-contains, AreRowsOf, Cell, CellAt, CellFits, Contains-from_slice_get, DelaysData, Edges, Fire, HasNetsBelow, IfSome, IsDelayAt, IsDelayOfRow, IsRowOf, Item, List, NetId, NetlistData, Nets, None, Option, PipelineData, Row, Shape, Some, State, [], ap, arith, candidate, cases_lt, delay_of, differ, edge, edges_of_cell, enabled, false, get_or, get_or_past, inl, inr, is_excited, is_excited_by_row, length, length_push, meaning, net_of_step, next_by_row, next_of_cell, next_value, not, out_at, output_is_low, own_pins, pin_or_output, pin_values, pins_of, pins_of-few, push_cases, refl, rises, same_Some, slice_get, slice_get-get_or, slice_get-some, slice_get_read, slice_get_within, subst, sym, take, true, ℕ, ◌++◌, ◌+◌, ◌-◌, ◌<◌, ◌∙◌, ◌∷◌, ◌≡◌, ◌≤◌}
use Rattle.ncl_sim.proofs.Oneness.{cell_candidate}

-- ---- a row and its cell

-- the values at four pins, of which as many count as the cell has
filled : (v : Nets) (ins : List NetId) (out : NetId) → length ins ≤ 4 → take (length ins) (v (get_or ins 0 out).0 ∷ v (get_or ins 1 out).0 ∷ v (get_or ins 2 out).0 ∷ v (get_or ins 3 out).0 ∷ []) ≡ pin_values v ins
filled v [] out few = refl
filled v (a ∷ []) out few = refl
filled v (a ∷ b ∷ []) out few = refl
filled v (a ∷ b ∷ c ∷ []) out few = refl
filled v (a ∷ b ∷ c ∷ d ∷ []) out few = refl
filled v (a ∷ b ∷ c ∷ d ∷ e ∷ ins) out few = absurd (omega arith)

module _ (nets : ℕ) (e : Edges) (c : Cell) (row : Row) (fits : CellFits nets c) (is : IsRowOf e c row) where
  pin-within : (pin : ℕ) → (pin_or_output c pin).0 < nets
  pin-within pin = elim (cases_lt pin (length c.ins.items)) [
    | inl lt ↦ fits.inputs pin c.out lt
    | inr past ↦ subst (λ (net : NetId). net.0 < nets) (sym (get_or_past c.ins.items pin c.out past)) fits.output
  ]

  row-nets : HasNetsBelow nets row
  row-nets = record {
    first = subst (λ (net : NetId). net.0 < nets) (sym is.first) (pin-within 0);
    second = subst (λ (net : NetId). net.0 < nets) (sym is.second) (pin-within 1);
    third = subst (λ (net : NetId). net.0 < nets) (sym is.third) (pin-within 2);
    fourth = subst (λ (net : NetId). net.0 < nets) (sym is.fourth) (pin-within 3);
    output = subst (λ (net : NetId). net.0 < nets) (sym is.output) fits.output;
  }

  own_pins-row : (v : Nets) → own_pins c.kind (v row.first.0 ∷ v row.second.0 ∷ v row.third.0 ∷ v row.fourth.0 ∷ []) ≡ pin_values v c.ins.items
  own_pins-row v =
      let count : length (pins_of c.kind) - 1 ≡ length c.ins.items = omega (arith, fits.pins) in
      (λ i. take (count i) (v (is.first i).0 ∷ v (is.second i).0 ∷ v (is.third i).0 ∷ v (is.fourth i).0 ∷ []))
      ∙ filled v c.ins.items c.out (omega (arith, fits.pins, pins_of-few c.kind))

  -- the bit of the word is the cell's next value
  next-row : (v : Nets) → next_by_row v row ≡ next_value v c
  next-row v =
      is.word (v row.first.0) (v row.second.0) (v row.third.0) (v row.fourth.0) (v row.output.0)
      ∙ (λ i. next_of_cell c.kind (own_pins-row v i) (v (is.output i).0))

  excited-row : (v : Nets) → is_excited_by_row v row ≡ is_excited v (Some c)
  excited-row v = λ i. differ (next-row v i) (v (is.output i).0)

module _ (p : PipelineData) (d : DelaysData) (k : ℕ) (c : Cell) (row : Row) (here : CellAt p.netlist k c) (fits : CellFits (length p.netlist.nets) c) (is : IsRowOf (edges_of_cell d (record { 0 = k })) c row) (s : State) where
  enabled-row : enabled p s (candidate p s k) ≡ is_excited_by_row s.value row
  enabled-row =
      ap (enabled p s) (cell_candidate p s k (slice_get_within p.netlist.cells k c here))
      ∙ ap (is_excited s.value) here
      ∙ sym (excited-row (length p.netlist.nets) (edges_of_cell d (record { 0 = k })) c row fits is s.value)

  delay-row : delay_of d (candidate p s k) (rises p s.value (candidate p s k)) ≡ edge row.delays (not (s.value row.output.0))
  delay-row =
      ap (λ (item : Item). delay_of d item (rises p s.value item)) (cell_candidate p s k (slice_get_within p.netlist.cells k c here))
      ∙ ap (λ (found : Option Cell). edge (edges_of_cell d (record { 0 = k })) (output_is_low s.value found)) here
      ∙ (λ i. edge (sym is.delays i) (not (s.value (sym is.output i).0)))

  told-row : (told : Option ℕ) → IsDelayOfRow s.value row told → IsDelayAt p d s k told
  told-row None off = enabled-row ∙ off
  told-row (Some delay) (on, same) = (enabled-row ∙ on, same ∙ sym delay-row)

-- ---- the rows of a pipeline

-- what stands past the last row
abbrev pub no_row : Row
no_row = record {
  word = 0;
  first = record { 0 = 0 };
  second = record { 0 = 0 };
  third = record { 0 = 0 };
  fourth = record { 0 = 0 };
  output = record { 0 = 0 };
  delays = record { rise = 0; fall = 0 };
}

module _ (p : PipelineData) (d : DelaysData) (rows : List Row) (are : AreRowsOf p d rows) (shape : Shape p.netlist p) (k : ℕ) (row : Row) (at : slice_get rows k ≡ Some row) where
  cell-there : (c : Cell) × CellAt p.netlist k c × CellFits (length p.netlist.nets) c
  cell-there =
      let (c, here) = slice_get-some p.netlist.cells k (subst (λ n. k < n) are.count (slice_get_within rows k row at)) in
      (c, here, All-contains (CellFits (length p.netlist.nets)) p.netlist.cells c shape.is_netlist.fits (Contains-from_slice_get p.netlist.cells k c here))

  pub nets-there : HasNetsBelow (length p.netlist.nets) row
  nets-there =
      let (c, here, fits) = cell-there in
      row-nets (length p.netlist.nets) (edges_of_cell d (record { 0 = k })) c row fits (are.each k c row here at)

  -- what a row tells holds of the item of its number
  pub told-there : (s : State) (told : Option ℕ) → IsDelayOfRow s.value row told → IsDelayAt p d s k told
  told-there s told is =
      let (c, here, fits) = cell-there in
      told-row p d k c row here fits (are.each k c row here at) s told is

  -- the row has the net that the item of its number changes
  pub output-there : (s : State) (net : NetId) → IfSome (net_of_step p s (candidate p s k)) (λ changed. net.0 ≡ changed) → row.output ≡ net
  output-there s net told =
      let (c, here, fits) = cell-there in
      let item : IfSome (out_at (slice_get p.netlist.cells k)) (λ changed. net.0 ≡ changed) =
      subst (λ (item : Item). IfSome (net_of_step p s item) (λ changed. net.0 ≡ changed)) (cell_candidate p s k (slice_get_within p.netlist.cells k c here)) told in
      let same : net.0 ≡ c.out.0 = subst (λ (found : Option Cell). IfSome (out_at found) (λ changed. net.0 ≡ changed)) here item in
      (are.each k c row here at).output ∙ (λ i. record { 0 = sym same i })

-- ---- the rows as they are made

-- these are the first rows
pub record AreFirstRows (d : DelaysData) (cells : List Cell) (count : ℕ) (rows : List Row) : Type 0 where
  pub size : length rows ≡ count
  pub each : (k : ℕ) (c : Cell) (row : Row) → slice_get cells k ≡ Some c → slice_get rows k ≡ Some row → IsRowOf (edges_of_cell d (record { 0 = k })) c row

-- the delays of a record of two
edges-are : (e : Edges) (rise fall : ℕ) → rise ≡ e.rise → fall ≡ e.fall → ◌≡◌ {A = Edges} (record { rise = rise; fall = fall }) e
edges-are e rise fall up down = λ i. record { rise = up i; fall = down i }

pub rows-next : (d : DelaysData) (cells : List Cell) (count : ℕ) (rows : List Row) (c : Cell) (row : Row) (rise fall : ℕ) → AreFirstRows d cells count rows → slice_get cells count ≡ Some c → rise ≡ delay_of d (Fire (record { 0 = count })) true → fall ≡ delay_of d (Fire (record { 0 = count })) false → IsRowOf (record { rise = rise; fall = fall }) c row → AreFirstRows d cells (count + 1) (rows ++ row ∷ [])
rows-next d cells count rows c row rise fall first at up down is = record {
  size = length_push rows row ∙ ap (λ n. n + 1) first.size;
  each = λ k other there at_cell at_row. elim (push_cases rows row k there at_row) [
    | inl before ↦ first.each k other there at_cell before
    | inr (last, same) ↦
        let place : count ≡ k = sym (last ∙ first.size) in
        let cell : c ≡ other = same_Some c other (sym at ∙ ap (slice_get cells) place ∙ at_cell) in
        subst (IsRowOf (edges_of_cell d (record { 0 = k })) other) same
        (subst (λ x. IsRowOf (edges_of_cell d (record { 0 = k })) x row) cell
        (subst (λ n. IsRowOf (edges_of_cell d (record { 0 = n })) c row) place
        (subst (λ (e : Edges). IsRowOf e c row) (edges-are (edges_of_cell d (record { 0 = count })) rise fall up down) is)))
  ];
}

pub rows-all : (p : PipelineData) (d : DelaysData) (cells : List Cell) (count : ℕ) (rows : List Row) → cells ≡ p.netlist.cells → count ≡ length cells → AreFirstRows d cells count rows → AreRowsOf p d rows
rows-all p d cells count rows same all first = record {
  count = first.size ∙ all ∙ ap length same;
  each = λ k c row at_cell at_row. first.each k c row (ap (λ cs. slice_get cs k) same ∙ at_cell) at_row;
}
