-- The order of the cells, and the sources of the nets found along it.
use Rattle.ncl_cell_rules.proofs.Terms.{All, All-contains, All-from_members, AllPairs, AreDrivers, AreSources, AreSourcesOf, Cell, CellAt, Contains, Contains-from_Member, Contains-from_slice_get, IsCell, IsCellOrder, IsGate, IsInputPort, IsNetlist, IsOffCycles, IsOnCycle, IsOrder, IsSourceOf, Leads, LeadsTo, List, NetId, NetlistData, Option, Port, ReadsNet, Some, Source, [], ap, arc, arcs, arith, cases_eq, cases_lt, from_push, further, gate_graph, get_or, get_or-replicate, get_or-set_other, get_or-set_same, get_or-take, get_or_default, get_or_past, inl, inr, length, length-map, length-replicate, length-set, length-take, refl, replicate, set, slice_get, slice_get-some, slice_get_within, source_at, subst, successors, sym, take, ℕ, ◌++◌, ◌<◌, ◌∙◌, ◌∷◌, ◌≡◌, ◌≢◌}
use Rattle.ncl_cell_rules.proofs.Drivers.{cell_fits, driver_of, no_cell_drives_port}
use Rattle.ncl_cell_rules.proofs.OriginLaws.{place_of}
use Rattle.ncl_cell_rules.proofs.GateLaws.{arc_of_reads, LeadsTo-from_Leads, Leads-from_LeadsTo}
use Rattle.ncl_cell_rules.proofs.SourceSteps.{port_source}

module _ (n : NetlistData) (is : IsNetlist n) where
  module _ (drivers : List (Option ℕ)) (are : AreDrivers n drivers) where
    -- an order of the graph is one of the cells
    pub order_of_cells : (order : List ℕ) → IsOrder (gate_graph n drivers) order → IsCellOrder n order
    order_of_cells order o =
        let as_many : length (gate_graph n drivers) ≡ length n.cells = length-map n.cells (arcs drivers) in
        record {
          inside = subst (λ m. All (λ k. k < m) order) as_many o.places;
          every = λ k lt. o.every k (omega (arith, lt, as_many));
          once = o.once;
          reads = λ before k rest e c at is_gate net j reads (d, at_d, out).
              o.after before k rest e j (arc_of_reads n is drivers are k j c d at at_d is_gate (subst (ReadsNet c) (sym out) reads));
        }

    -- a cell is off cycles exactly where its place is
    pub off_cycles : (k : ℕ) → (IsOnCycle (gate_graph n drivers) k → ⊥) → (c : Cell) → CellAt n k c → IsOffCycles n c
    off_cycles k none c at is_gate leads = none (Leads-from_LeadsTo n is drivers are c.out.0 c.out.0 leads k k (c, at, refl) (c, at, refl))

    pub on_cycle : (k : ℕ) (c : Cell) → CellAt n k c → IsOnCycle (gate_graph n drivers) k → IsOffCycles n c → ⊥
    on_cycle k c at on off =
        let (is_gate, (d, at_d, leads)) = LeadsTo-from_Leads n is drivers are k k c at on in
        let same : Some c ≡ Some d = sym at ∙ at_d in
        let one : c ≡ d = cc in
        off is_gate (subst (λ (x : Cell). LeadsTo n x.out.0 c.out.0) (sym one) leads)

    -- a place on a cycle is that of a cell
    pub cell_on_cycle : (k : ℕ) → IsOnCycle (gate_graph n drivers) k → (c : Cell) × CellAt n k c
    cell_on_cycle k on =
        elim (cases_lt k (length n.cells)) [
          | inl within ↦ slice_get-some n.cells k within
          | inr past ↦
              let as_many : length (gate_graph n drivers) ≡ length n.cells = length-map n.cells (arcs drivers) in
              let none : successors (gate_graph n drivers) k ≡ [] = get_or_past (gate_graph n drivers) k [] (omega (arith, past, as_many)) in
              absurd (no_path k k on none)
        ]
      where
        no_path : (i j : ℕ) → Leads (gate_graph n drivers) i j → successors (gate_graph n drivers) i ≡ [] → ⊥
        no_path i j (arc a) none = let (x, lt, at) = subst (λ l. Contains l j) none a in omega (arith, lt)
        no_path i j (further {j = m} a path) none = let (x, lt, at) = subst (λ l. Contains l m) none a in omega (arith, lt)

  -- at the start only the ports are known
  pub sources_begin : AreSourcesOf n [] (replicate (length n.nets) Port)
  sources_begin = record {
    sized = length-replicate (length n.nets) Port;
    ports = λ net input. subst (IsSourceOf n net) (sym (all_ports net)) (port_source n is net input);
    driven = λ k net (j, lt, at) drives. absurd (omega arith);
  }
    where
      all_ports : (net : ℕ) → source_at (replicate (length n.nets) Port) net ≡ Port
      all_ports net = elim (cases_lt net (length n.nets)) [
        | inl inside ↦ get_or-replicate (length n.nets) net Port Port inside
        | inr past ↦ get_or_past (replicate (length n.nets) Port) net Port (omega (arith, past, length-replicate (length n.nets) Port))
      ]

  -- one cell more
  pub sources_more : (places : List ℕ) (sources : List Source) (p : ℕ) (c : Cell) (s : Source) → AreSourcesOf n places sources → CellAt n p c → (Contains places p → ⊥) → IsSourceOf n c.out.0 s → AreSourcesOf n (places ++ p ∷ []) (set sources c.out.0 s)
  sources_more places sources p c s so_far at new is_s = record {
    sized = length-set sources c.out.0 s ∙ so_far.sized;
    ports = λ net input. subst (IsSourceOf n net) (sym (kept net (λ same. no_cell_drives_port n is c in_c (subst (IsInputPort n) same input)))) (so_far.ports net input);
    driven = λ k net among (d, at_d, out). elim (cases_eq net c.out.0) [
      | inl same ↦ subst (λ x. IsSourceOf n x (source_at (set sources c.out.0 s) x)) (sym same) (subst (IsSourceOf n c.out.0) (sym here) is_s)
      | inr other ↦ elim (from_push places p k among) [
        | inl old ↦ subst (IsSourceOf n net) (sym (kept net other)) (so_far.driven k net old (d, at_d, out))
        | inr last ↦
            let cells : Some c ≡ Some d = sym at ∙ ap (slice_get n.cells) last ∙ at_d in
            let one : c ≡ d = cc in
            absurd (other (sym out ∙ ap (λ (x : Cell). x.out.0) (sym one)))
      ]
    ];
  }
    where
      in_c : IsCell n c
      in_c = Contains-from_slice_get n.cells p c at

      here : source_at (set sources c.out.0 s) c.out.0 ≡ s
      here = let fits = cell_fits n is c in_c in let sized = so_far.sized in get_or-set_same sources c.out.0 s Port (omega (arith, fits.output, sized))

      kept : (net : ℕ) → net ≢ c.out.0 → source_at (set sources c.out.0 s) net ≡ source_at sources net
      kept net other = get_or-set_other sources c.out.0 net s Port other

  -- what a gate cell reads is known once the cells before it are
  pub pins_known : (order before rest : List ℕ) (p : ℕ) (sources : List Source) → IsCellOrder n order → order ≡ before ++ p ∷ rest → AreSourcesOf n before sources → (c : Cell) → CellAt n p c → IsGate c → All (λ (net : NetId). IsSourceOf n net.0 (source_at sources net.0)) c.ins.items
  pins_known order before rest p sources ordered e so_far c at is_gate =
      All-from_members (λ (net : NetId). IsSourceOf n net.0 (source_at sources net.0)) c.ins.items (λ net m.
      let reads = Contains-from_Member net m in
      let fits = cell_fits n is c (Contains-from_slice_get n.cells p c at) in
      elim (driver_of n is net.0 (All-contains (λ (x : NetId). x.0 < length n.nets) c.ins.items net fits.inputs reads)) [
        | inl input ↦ so_far.ports net.0 input
        | inr (d, in_d, out) ↦
            let (k, at_d) = place_of n d in_d in
            so_far.driven k net.0 (ordered.reads before p rest e c at is_gate net.0 k reads (d, at_d, out)) (d, at_d, out)
      ])

  -- after all cells each net is known
  pub sources_whole : (order : List ℕ) (sources : List Source) → IsCellOrder n order → AreSourcesOf n order sources → AreSources n sources
  sources_whole order sources ordered so_far = record {
    sized = so_far.sized;
    each = λ net lt. elim (driver_of n is net lt) [
      | inl input ↦ so_far.ports net input
      | inr (d, in_d, out) ↦
          let (k, at_d) = place_of n d in_d in
          so_far.driven k net (ordered.every k (slice_get_within n.cells k d at_d)) (d, at_d, out)
    ];
  }

-- an element of a list whose elements differ doesn't stand before its place
pub new_at : (xs : List ℕ) (k : ℕ) → AllPairs (λ i j. i ≢ j) xs → k < length xs → Contains (take k xs) (get_or xs k 0) → ⊥
new_at xs k differ lt (i, within, at) =
    let short : i < k = omega (arith, within, length-take k xs) in
    differ i k 0 short lt (get_or_default xs i 0 (get_or xs k 0) (omega (arith, short, lt)) ∙ sym (get_or-take k xs i (get_or xs k 0) short) ∙ at)
