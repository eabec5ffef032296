-- Gate cells that are numbered: they are cells of the netlist, and read and drive the nets of their names.
use Rattle.ncl_compile.proofs.Terms.{All, All-cons, All-head, All-nil, All-tail, AllZip, CellKind, Gate, HasCell, HasGate, IsNumbered, Kind, List, Member, PartCell, Parts, Some, StageCell, [], ap, arith, at_map, cell_of, gate_numbers, here, input_names, length, map, name_number, named_net, netlist_of, nets_of, out_of, output_name, range_with_len, refl, slice_get, sym, there, ℕ, ◌++◌, ◌+◌, ◌∙◌, ◌∷◌, ◌≡◌}
use Rattle.ncl_compile.proofs.StandingCells.{StandAt, StandAt-head, StandAt-tail}
use Rattle.ncl_compile.proofs.Numbering.{gate_kind, numbered_gate, numbered_gates}

-- the cell is a gate
abbrev pub IsGatePart : PartCell → Type 0
IsGatePart cell = (kind : Kind) × (cell.kind ≡ Gate kind)

gate_kind-is : (cell : PartCell) → IsGatePart cell → cell.kind ≡ Gate (gate_kind cell.kind)
gate_kind-is cell (kind, is) = is ∙ ap (λ k. Gate (gate_kind k)) (sym is)

module _ (parts : Parts) where
  abbrev pub number : List ℕ → ℕ
  number = name_number (nets_of parts)

  -- a cell of the parts is a cell of their netlist
  pub HasCell-from_part : (place : ℕ) (c : PartCell) (sort : CellKind) (names : List (List ℕ)) (name : List ℕ) → slice_get parts.cells place ≡ Some c → c.kind ≡ sort → input_names c ≡ names → output_name c ≡ name
      → HasCell (netlist_of parts) (record { 0 = place }) sort (map (named_net number) names) (named_net number name)
  HasCell-from_part place c sort names name at kind ins out = record {
    cell = cell_of (nets_of parts) c;
    at = at_map (cell_of (nets_of parts)) parts.cells place c at;
    kind = kind;
    ins = ap (map (named_net number)) ins;
    out = ap (named_net number) out;
  }

  -- so gates that stand in the parts are gates of the netlist
  pub gates_have : (first : ℕ) (cells : List PartCell) → StandAt parts.cells first cells → All IsGatePart cells → All (HasGate (netlist_of parts)) (numbered_gates number first cells)
  gates_have first [] stands gates = All-nil (HasGate (netlist_of parts))
  gates_have first (c ∷ cells) stands gates =
      All-cons (HasGate (netlist_of parts)) (numbered_gate number first c) (numbered_gates number (first + 1) cells)
      (HasCell-from_part first c (Gate (gate_kind c.kind)) (input_names c) (output_name c) (StandAt-head parts.cells c cells first stands) (gate_kind-is c (All-head IsGatePart c cells gates)) refl refl)
      (gates_have (first + 1) cells (StandAt-tail parts.cells c cells first stands) (All-tail IsGatePart c cells gates))

module _ (number : List ℕ → ℕ) where
  -- their numbers are in a row
  pub gate_numbers-row : (first : ℕ) (cells : List PartCell) → gate_numbers (numbered_gates number first cells) ≡ range_with_len first (length cells)
  gate_numbers-row first [] = refl
  gate_numbers-row first (c ∷ cells) = ap (λ l. first ∷ l) (gate_numbers-row (first + 1) cells)

  -- and they drive the nets of their names
  pub outs-numbered : (first : ℕ) (cells : List PartCell) → map out_of (numbered_gates number first cells) ≡ map number (map output_name cells)
  outs-numbered first [] = refl
  outs-numbered first (c ∷ cells) = ap (λ l. number (output_name c) ∷ l) (outs-numbered (first + 1) cells)

  -- each is the numbered form of its part
  pub are_numbered : (first : ℕ) (cells : List PartCell) → All IsGatePart cells → AllZip (IsNumbered number) cells (numbered_gates number first cells)
  are_numbered first [] gates = tt
  are_numbered first (c ∷ cells) gates = (record { kind = gate_kind-is c (All-head IsGatePart c cells gates); ins = refl; out = refl }, are_numbered (first + 1) cells (All-tail IsGatePart c cells gates))

  -- gates divide with their parts: some parts stand before the part of the gate, and some after it
  pub record Divides (first : ℕ) (cells : List PartCell) (before : List StageCell) (g : StageCell) : Type 0 where
    pub front : List PartCell
    pub part : PartCell
    pub back : List PartCell
    pub whole : cells ≡ front ++ part ∷ back
    pub earlier : before ≡ numbered_gates number first front
    pub is : g ≡ numbered_gate number (first + length front) part

  one_before : (first : ℕ) (c : PartCell) (cells : List PartCell) (b : StageCell) (before : List StageCell) (g : StageCell) → b ≡ numbered_gate number first c → Divides (first + 1) cells before g → Divides first (c ∷ cells) (b ∷ before) g
  one_before first c cells b before g head rest =
      let place : first + 1 + length rest.front ≡ first + length (c ∷ rest.front) = omega arith in
      let earlier = rest.earlier in
      record {
        front = c ∷ rest.front;
        part = rest.part;
        back = rest.back;
        whole = ap (λ l. c ∷ l) rest.whole;
        earlier = λ i. head i ∷ earlier i;
        is = rest.is ∙ ap (λ k. numbered_gate number k rest.part) place;
      }

  pub gates_divide : (first : ℕ) (cells : List PartCell) (before after : List StageCell) (g : StageCell) → numbered_gates number first cells ≡ before ++ g ∷ after → Divides first cells before g
  gates_divide first [] [] after g whole = absurd cc
  gates_divide first [] (b ∷ before) after g whole = absurd cc
  gates_divide first (c ∷ cells) [] after g whole =
      let head : g ≡ numbered_gate number first c = cc in
      let place : first ≡ first + 0 = omega arith in
      record { front = []; part = c; back = cells; whole = refl; earlier = refl; is = head ∙ ap (λ k. numbered_gate number k c) place }
  gates_divide first (c ∷ cells) (b ∷ before) after g whole =
      let head : b ≡ numbered_gate number first c = cc in
      let tail : numbered_gates number (first + 1) cells ≡ before ++ g ∷ after = cc in
      one_before first c cells b before g head (gates_divide (first + 1) cells before after g tail)

  -- a member of the parts has its gate
  pub gate_of_part : (c : PartCell) (first : ℕ) {cells : List PartCell} → Member c cells → (g : StageCell) × Member g (numbered_gates number first cells) × (g.ins.items ≡ map (named_net number) (input_names c))
  gate_of_part c first (here {xs = cells}) = (numbered_gate number first c, here, refl)
  gate_of_part c first (there {y = d} {xs = cells} m) = let (g, in_gates, ins) = gate_of_part c (first + 1) m in (g, there in_gates, ins)

  pub kinds_of_gates : (P : Kind → Type 0) (first : ℕ) (cells : List PartCell) → All (λ (c : PartCell). P (gate_kind c.kind)) cells → All (λ (g : StageCell). P g.kind) (numbered_gates number first cells)
  kinds_of_gates P first [] all = All-nil (λ (g : StageCell). P g.kind)
  kinds_of_gates P first (c ∷ cells) all =
      All-cons (λ (g : StageCell). P g.kind) (numbered_gate number first c) (numbered_gates number (first + 1) cells) (All-head (λ (c : PartCell). P (gate_kind c.kind)) c cells all)
      (kinds_of_gates P (first + 1) cells (All-tail (λ (c : PartCell). P (gate_kind c.kind)) c cells all))
