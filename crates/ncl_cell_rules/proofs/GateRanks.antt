-- Where no gate cell lies on a cycle, the cells have an order in which each gate stands after what drives it, and nets have
-- ranks that rise along every gate cell.
use Rattle.ncl_cell_rules.proofs.Terms.{All, All-contains, All-filter, All-from_members, Bool, Cell, CellAt, Contains, Contains-from_Member, Contains-from_slice_get, IsCell, IsCellOrder, IsFree, IsGate, IsGraph, IsNetlist, IsOnCycle, IsOrder, Leads, LeadsTo, List, Member-filter, Member-from_Contains, NetlistData, ReadsNet, Register, [], acyclic_has_order, ap, arith, both_ways, cases_lt, eq-eqb, eqb-true, fails_before_first, filter, filter_passes, gate_reads_test, get_or, get_or-map, get_or-range_with_len, get_or-take, get_or_default, get_or_from_slice_get, get_or_past, inl, inr, length, length-map, length-range_with_len, length-take, map, more, most_cells, nat_eq, one, passes_at_first, position_or_len, range_with_len, slice_get-from_Contains, slice_get-get_or, slice_get_within, stands_below, subst, successors, sym, true, ℕ, ◌<◌, ◌∙◌, ◌≡◌, ◌≤◌}
use Rattle.ncl_graph.specs.Graph.Leads.{arc, further}
use Rattle.ncl_cell_rules.proofs.Drivers.{same_place}
use Rattle.ncl_cell_rules.proofs.OriginLaws.{place_of}
use Rattle.ncl_cell_rules.proofs.CellTests.{gate_reads_passes, gate_reads-from_test}

-- the first place that passes a test is no later than any that does
first_at_most : (test : ℕ → Bool) (xs : List ℕ) (k : ℕ) → test (get_or xs k 0) ≡ true → position_or_len test xs ≤ k
first_at_most test xs k passes =
    elim (cases_lt k (position_or_len test xs)) [
      | inl before ↦ absurd (both_ways _ (fails_before_first test xs k 0 before) passes)
      | inr past ↦ past
    ]

-- a path of gate cells with one more at its end
pub LeadsTo-push : (n : NetlistData) (x y : ℕ) → LeadsTo n x y → (c : Cell) → IsCell n c → IsGate c → ReadsNet c y → LeadsTo n x c.out.0
LeadsTo-push n x y (one d in_d gate reads) c in_c is_gate reads_y = more d in_d gate reads (one c in_c is_gate reads_y)
LeadsTo-push n x y (more d in_d gate reads path) c in_c is_gate reads_y = more d in_d gate reads (LeadsTo-push n d.out.0 y path c in_c is_gate reads_y)

module _ (n : NetlistData) (is : IsNetlist n) (free : IsFree n) where
  no_cell : Cell
  no_cell = record { kind = Register; name = []; ins = record { items = [] }; out = record { 0 = 0 } }

  abbrev cell_at : ℕ → Cell
  cell_at i = get_or n.cells i no_cell

  out_at : (i : ℕ) (c : Cell) → CellAt n i c → (cell_at i).out.0 ≡ c.out.0
  out_at i c at = ap (λ (x : Cell). x.out.0) (get_or_from_slice_get n.cells i c no_cell at)

  -- the graph in which each gate cell leads to the cells that drive its inputs
  abbrev arcs : Cell → List ℕ
  arcs c = filter (λ j. gate_reads_test (cell_at j).out.0 c) (range_with_len 0 (length n.cells))

  abbrev graph : List (List ℕ)
  graph = map arcs n.cells

  arcs_at : (i : ℕ) (c : Cell) → CellAt n i c → successors graph i ≡ arcs c
  arcs_at i c at = get_or-map arcs n.cells i c [] (slice_get_within n.cells i c at) ∙ ap arcs (get_or_from_slice_get n.cells i c c at)

  arcs_within : (c : Cell) → All (λ j. j < length n.cells) (arcs c)
  arcs_within c =
      All-filter (λ j. gate_reads_test (cell_at j).out.0 c) (λ j. j < length n.cells) (range_with_len 0 (length n.cells))
      (λ k d lt.
      let count = length-range_with_len 0 (length n.cells) in
      let within : k < length n.cells = omega (arith, lt, count) in
      let at = get_or-range_with_len 0 (length n.cells) k d within in
      omega (arith, at, within))

  -- an arc leads from a gate cell to a cell whose output it reads
  arc_reads : (i j : ℕ) → Contains (successors graph i) j → (c : Cell) × (d : Cell) × CellAt n i c × CellAt n j d × IsGate c × ReadsNet c d.out.0
  arc_reads i j found =
      elim (cases_lt i (length n.cells)) [
        | inl lt ↦
            let at : CellAt n i (cell_at i) = slice_get-get_or n.cells i no_cell lt in
            let listed : Contains (arcs (cell_at i)) j = subst (λ l. Contains l j) (arcs_at i (cell_at i) at) found in
            let within = All-contains (λ j. j < length n.cells) (arcs (cell_at i)) j (arcs_within (cell_at i)) listed in
            let passes = All-contains (λ j. gate_reads_test (cell_at j).out.0 (cell_at i) ≡ true) (arcs (cell_at i)) j (filter_passes (λ j. gate_reads_test (cell_at j).out.0 (cell_at i)) (range_with_len 0 (length n.cells))) listed in
            let (is_gate, reads) = gate_reads-from_test (cell_at j).out.0 (cell_at i) passes in
            (cell_at i, cell_at j, at, slice_get-get_or n.cells j no_cell within, is_gate, reads)
        | inr past ↦
            let count = length-map n.cells arcs in
            let none : Contains [] j = subst (λ l. Contains l j) (get_or_past graph i [] (omega (arith, past, count))) found in
            absurd (omega (arith, none.1))
      ]

  -- and each of these has an arc
  arc_of_reads : (i j : ℕ) (c d : Cell) → CellAt n i c → CellAt n j d → IsGate c → ReadsNet c d.out.0 → Contains (successors graph i) j
  arc_of_reads i j c d at_c at_d is_gate reads =
      let lt : j < length n.cells = slice_get_within n.cells j d at_d in
      let count = length-range_with_len 0 (length n.cells) in
      let place : Contains (range_with_len 0 (length n.cells)) j = (j, omega (arith, lt, count), let at = get_or-range_with_len 0 (length n.cells) j j lt in omega (arith, at)) in
      let passes : gate_reads_test (cell_at j).out.0 c ≡ true = gate_reads_passes (cell_at j).out.0 c is_gate (subst (ReadsNet c) (sym (out_at j d at_d)) reads) in
      subst (λ l. Contains l j) (sym (arcs_at i c at_c))
      (Contains-from_Member j (Member-filter (λ j. gate_reads_test (cell_at j).out.0 c) j (Member-from_Contains (range_with_len 0 (length n.cells)) j place) passes))

  is_graph : IsGraph graph
  is_graph =
      let count = length-map n.cells arcs in
      record {
        few = let few : length n.cells ≤ most_cells = is.few_cells in omega (arith, count, few);
        closed = All-from_members (All (λ j. j < length graph)) graph (λ list m. All-from_members (λ j. j < length graph) list (λ j mj.
            let (i, at) = slice_get-from_Contains graph list (Contains-from_Member list m) in
            let (c, d, at_c, at_d, is_gate, reads) = arc_reads i j (subst (λ l. Contains l j) (sym (get_or_from_slice_get graph i list [] at)) (Contains-from_Member j mj)) in
            let lt : j < length n.cells = slice_get_within n.cells j d at_d in
            omega (arith, lt, count)));
      }

  -- a path of the graph is a path of gate cells the other way round
  path_reads : (i j : ℕ) → Leads graph i j → (c : Cell) × (d : Cell) × CellAt n i c × CellAt n j d × IsGate c × LeadsTo n d.out.0 c.out.0
  path_reads i j (arc found) =
      let (c, d, at_c, at_d, is_gate, reads) = arc_reads i j found in
      (c, d, at_c, at_d, is_gate, one c (Contains-from_slice_get n.cells i c at_c) is_gate reads)
  path_reads i j (further {j = k} found path) =
      let (c, b, at_c, at_b, is_gate, reads) = arc_reads i k found in
      let (other, d, at_other, at_d, other_gate, leads) = path_reads k j path in
      let same : other ≡ b = cc in
      let up : LeadsTo n d.out.0 b.out.0 = subst (λ (x : Cell). LeadsTo n d.out.0 x.out.0) same leads in
      (c, d, at_c, at_d, is_gate, LeadsTo-push n d.out.0 b.out.0 up c (Contains-from_slice_get n.cells i c at_c) is_gate reads)

  acyclic : (i : ℕ) → IsOnCycle graph i → ⊥
  acyclic i on =
      let (c, d, at_c, at_d, is_gate, leads) = path_reads i i on in
      let same : d ≡ c = cc in
      free.off_cycles i c at_c is_gate (subst (λ (x : Cell). LeadsTo n x.out.0 c.out.0) same leads)

  in_order : (order : List ℕ) × IsOrder graph order
  in_order = acyclic_has_order graph is_graph acyclic

  -- as an order of cells: each of the netlist's cells stands in it once
  pub cell_order : (order : List ℕ) × IsCellOrder n order
  cell_order =
      let (order, o) = in_order in
      let as_many = length-map n.cells arcs in (
        order,
        record {
          inside = subst (λ m. All (λ k. k < m) order) as_many o.places;
          every = λ k lt. o.every k (omega (arith, lt, as_many));
          once = o.once;
          reads = λ before k rest e c at is_gate net j reads (d, at_d, out).
              o.after before k rest e j (arc_of_reads k j c d at at_d is_gate (subst (ReadsNet c) (sym out) reads));
        },
      )

  -- the rank of a net is the first index in that order at which a cell drives it
  abbrev drives_at : ℕ → ℕ → Bool
  drives_at net i = nat_eq (cell_at i).out.0 net

  abbrev rank : ℕ → ℕ
  rank net = position_or_len (drives_at net) in_order.0

  -- at the index of its rank stands the cell that drives a net
  rank_place : (i : ℕ) (c : Cell) → CellAt n i c → (rank c.out.0 < length in_order.0) × (get_or in_order.0 (rank c.out.0) 0 ≡ i)
  rank_place i c at =
      let lt : i < length n.cells = slice_get_within n.cells i c at in
      let count = length-map n.cells arcs in
      let (k, listed, at_k) = in_order.1.every i (omega (arith, lt, count)) in
      let same : get_or in_order.0 k 0 ≡ i = get_or_default in_order.0 k 0 i listed ∙ at_k in
      let least : rank c.out.0 ≤ k = first_at_most (drives_at c.out.0) in_order.0 k (eq-eqb _ _ (ap (λ j. (cell_at j).out.0) same ∙ out_at i c at)) in
      let within : rank c.out.0 < length in_order.0 = omega (arith, least, listed) in
      let below = in_order.1.places (rank c.out.0) 0 within in
      let first : CellAt n (get_or in_order.0 (rank c.out.0) 0) (cell_at (get_or in_order.0 (rank c.out.0) 0)) = slice_get-get_or n.cells (get_or in_order.0 (rank c.out.0) 0) no_cell (omega (arith, below, count)) in
      (within, same_place n is (get_or in_order.0 (rank c.out.0) 0) i (cell_at (get_or in_order.0 (rank c.out.0) 0)) c first at (eqb-true _ _ (passes_at_first (drives_at c.out.0) in_order.0 0 within)))

  -- the output of a gate cell has a greater rank than each of its inputs that a cell drives
  rank_rises : (c d : Cell) → IsCell n c → IsGate c → IsCell n d → ReadsNet c d.out.0 → rank d.out.0 < rank c.out.0
  rank_rises c d in_c is_gate in_d reads =
      let (i, at_c) = place_of n c in_c in
      let (j, at_d) = place_of n d in_d in
      let (within, place) = rank_place i c at_c in
      let found = subst (λ x. Contains (successors graph x) j) (sym place) (arc_of_reads i j c d at_c at_d is_gate reads) in
      let (k, lt, at_k) = stands_below graph in_order.0 in_order.1 (rank c.out.0) within j found in
      let count = length-take (rank c.out.0) in_order.0 in
      let earlier : k < rank c.out.0 = omega (arith, lt, within, count) in
      let same : get_or in_order.0 k 0 ≡ j = get_or_default in_order.0 k 0 j (omega (arith, earlier, within)) ∙ sym (get_or-take (rank c.out.0) in_order.0 k j earlier) ∙ at_k in
      let least : rank d.out.0 ≤ k = first_at_most (drives_at d.out.0) in_order.0 k (eq-eqb _ _ (ap (λ x. (cell_at x).out.0) same ∙ out_at j d at_d)) in
      omega (arith, least, earlier)

  -- so there are ranks below a bound that rise along every gate cell
  pub gate_ranks : (rank : ℕ → ℕ) × (top : ℕ) × ((c : Cell) → IsCell n c → rank c.out.0 < top) × ((c d : Cell) → IsCell n c → IsGate c → IsCell n d → ReadsNet c d.out.0 → rank d.out.0 < rank c.out.0)
  gate_ranks = (rank, length in_order.0, λ c in_c. let (i, at) = place_of n c in_c in (rank_place i c at).0, rank_rises)
