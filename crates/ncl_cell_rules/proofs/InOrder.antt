-- Cells that stand in order as the netlist has them.
use Rattle.ncl_cell_rules.proofs.Terms.{All, All-contains, AreDrivers, Cell, Contains, IsDrivenBefore, IsGate, IsNetlist, IsOrder, List, NetlistData, Option, Some, StandsLater, ap, arcs, arith, below_more, gate_graph, get_or, get_or-append_seam, get_or-range_with_len, get_or_append_left, length, length-append, length-map, length-range_with_len, range_with_len, refl, slice_get-some, slice_get_within, subst, successors, sym, ℕ, ◌+◌, ◌<◌, ◌∙◌, ◌∷◌, ◌≡◌, ◌≤◌}
use Rattle.ncl_cell_rules.proofs.GateLaws.{arc_reads}
use Rattle.ncl_cell_rules.proofs.TableSteps.{cell_read}

-- a list of cells that is gone through in order
module _ (n : NetlistData) (drivers : List (Option ℕ)) (cells : List Cell) (same : cells ≡ n.cells) (k : ℕ) (before : (j : ℕ) → j < k → StandsLater n drivers j) where
  -- one cell more
  pub one_later : (c : Cell) → k < length cells → c ≡ get_or cells k c → (IsGate c → All (IsDrivenBefore drivers k) c.ins.items) → (j : ℕ) → j < k + 1 → StandsLater n drivers j
  one_later c within read later = below_more (StandsLater n drivers) k before (λ d at.
      let cells_same : Some c ≡ Some d = sym (cell_read n cells k c same within read) ∙ at in
      let one : c ≡ d = cc in
      subst (λ (x : Cell). IsGate x → All (IsDrivenBefore drivers k) x.ins.items) one later)

  pub all_later : length cells ≤ k → (j : ℕ) → StandsLater n drivers j
  all_later past j c at = let within = slice_get_within n.cells j c at in before j (omega (arith, within, past, ap length same)) c at

-- the places in a row are an order then
module _ (n : NetlistData) (is : IsNetlist n) (drivers : List (Option ℕ)) (are : AreDrivers n drivers) (later : (k : ℕ) → StandsLater n drivers k) where
  abbrev places : List ℕ
  places = range_with_len 0 (length n.cells)

  sized : length places ≡ length n.cells
  sized = length-range_with_len 0 (length n.cells)

  -- each place holds its own number
  own : (i d : ℕ) → i < length n.cells → get_or places i d ≡ i
  own i d lt = get_or-range_with_len 0 (length n.cells) i d lt ∙ omega arith

  -- an arc leads to an earlier place
  leads_back : (i j : ℕ) → i < length n.cells → Contains (successors (gate_graph n drivers) i) j → j < i
  leads_back i j lt arc =
      let (c, at) = slice_get-some n.cells i lt in
      let (is_gate, (d, at_d, reads)) = arc_reads n is drivers are i j c at arc in
      All-contains (IsDrivenBefore drivers i) c.ins.items (record { 0 = d.out.0 }) (later i c at is_gate) reads j (are.driven d.out.0 j (d, at_d, refl))

  pub order_as_they_stand : IsOrder (gate_graph n drivers) places
  order_as_they_stand =
      let as_many : length (gate_graph n drivers) ≡ length n.cells = length-map n.cells (arcs drivers) in
      record {
        as_many = sized ∙ sym as_many;
        places = λ k d within. let at = own k d (omega (arith, within, sized)) in omega (arith, at, within, sized, as_many);
        every = λ i lt. let inside : i < length n.cells = omega (arith, lt, as_many) in (i, omega (arith, inside, sized), own i i inside);
        once = λ i j d less within same. omega (arith, own i d (omega (arith, less, within, sized)), own j d (omega (arith, within, sized)), same, less);
        after = λ before i rest e j arc.
            let whole = ap length e ∙ length-append before (i ∷ rest) in
            let inside : length before < length n.cells = omega (arith, whole, sized) in
            let here : i ≡ length before = sym (get_or-append_seam before i rest 0) ∙ sym (ap (λ l. get_or l (length before) 0) e) ∙ own (length before) 0 inside in
            let less : j < i = leads_back i j (omega (arith, here, inside)) arc in
            let within : j < length before = omega (arith, less, here) in
            (j, within, sym (get_or_append_left before (i ∷ rest) j j within) ∙ ap (λ l. get_or l j j) (sym e) ∙ own j j (omega (arith, within, inside)));
      }
