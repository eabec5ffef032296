-- How long the text of a compiled netlist is.
use Rattle.ncl_compile.proofs.Terms.{All-from_members, All-member, AreModels, CanBeCompiled, Cell, CellFits, IsNetlist, IsPlain, IsPutTogether, List, MOST_BYTES, Member, Member-append_cases, Member-append_right, Member-get_or, Member-map, Model, NetId, NetlistData, Parts, Port, [], arith, cell_line, cell_of, codes, drop, flat_map, get_or, header_line, inl, inr, length, length-append, length-drop, length-map, map, member_cases, member_of_map, netlist_of, nets_of, pin_names, port_line, refl, subst, sym, take, take-append-drop, text_of, wire_line, ℕ, ◌*◌, ◌++◌, ◌+◌, ◌<◌, ◌∷◌, ◌≡◌, ◌≤◌}
use Rattle.ncl_compile.proofs.CellCount.{few_cells}
use Rattle.ncl_compile.proofs.NameLengths.{IsShort, port_names_short, cells_short, nets_short}
use Rattle.ncl_compile.proofs.NetDrivers.{plain_nets, plain_cells, plain_ports}
use Rattle.ncl_compile.proofs.NetsOfCells.{nets-le}
use Rattle.ncl_compile.proofs.PartPins.{ports-count}
use Rattle.ncl_compile.proofs.TextLines.{IsShortWord, header-le, port-le, wire-le, cell-le, lines-le}

-- a text by its lines
text-le : (n : NetlistData) (header ports wires cells : ℕ) → length (header_line n.name n.ports) ≤ header → length (flat_map port_line n.ports) ≤ ports → length (flat_map wire_line (drop (length n.ports) n.nets)) ≤ wires → length (flat_map (cell_line n.nets) n.cells) ≤ cells → length (text_of n) ≤ header + ports + wires + cells + 10
text-le n header ports wires cells is_header are_ports are_wires are_cells =
    let h = header_line n.name n.ports in
    let p = flat_map port_line n.ports in
    let w = flat_map wire_line (drop (length n.ports) n.nets) in
    let c = flat_map (cell_line n.nets) n.cells in
    omega (arith, is_header, are_ports, are_wires, are_cells, length-append h (p ++ (w ++ (c ++ codes "endmodule\n"))), length-append p (w ++ (c ++ codes "endmodule\n")), length-append w (c ++ codes "endmodule\n"), length-append c (codes "endmodule\n"))

-- what the bounds on ports, wires and cells come to
sum_up : (text ports wires cells : ℕ) → text ≤ 16 + ports * 7 + ports * 15 + wires * 18 + cells * 103 + 10 → ports ≤ 515 → wires ≤ cells → cells ≤ 131072 → text ≤ 16777216
sum_up text ports wires cells whole few_ports few_wires few_cells = omega arith

module _ (models : List Model) (are : AreModels models) (small : CanBeCompiled models) (parts : Parts) (put : IsPutTogether models parts) (is : IsNetlist (netlist_of parts)) where
  net_word : (x : List ℕ) → Member x (nets_of parts) → IsShortWord 11 x
  net_word x m = record { plain = All-member IsPlain (nets_of parts) (plain_nets models are small parts put is) x m; short = nets_short models are small parts put is x m }

  port_word : (port : Port) → Member port parts.ports → IsShortWord 6 port.name
  port_word port m =
      let named = Member-map (λ (port : Port). port.name) port m in
      record { plain = plain_ports models are small parts put port.name named; short = port_names_short models are small parts put port.name named }

  title_word : IsShortWord 6 parts.«module»
  title_word = subst (IsShortWord 6) (sym put.title) record { plain = refl; short = omega arith }

  cell_word : (cell : Cell) → Member cell (map (cell_of (nets_of parts)) parts.cells) → IsShortWord 11 cell.name
  cell_word cell m = record {
    plain = All-member (λ (cell : Cell). IsPlain cell.name) (map (cell_of (nets_of parts)) parts.cells) (plain_cells models are small parts put) cell m;
    short = All-member (λ (cell : Cell). IsShort 11 cell.name) (map (cell_of (nets_of parts)) parts.cells) (cells_short models are small parts put) cell m;
  }

  -- the nets at the pins of a cell are nets
  pin_word : (cell : Cell) → Member cell (map (cell_of (nets_of parts)) parts.cells) → (x : List ℕ) → Member x (pin_names (nets_of parts) cell) → IsShortWord 11 x
  pin_word cell m x in_pins =
      let fits = All-member (CellFits (length (nets_of parts))) (map (cell_of (nets_of parts)) parts.cells) is.fits cell m in
      let (net, in_cell, same) = member_of_map (λ (net : NetId). get_or (nets_of parts) net.0 []) (cell.ins.items ++ cell.out ∷ []) x in_pins in
      let within : net.0 < length (nets_of parts) =
      elim (Member-append_cases net cell.ins.items (cell.out ∷ []) in_cell) [
        | inl input ↦ All-member (λ (net : NetId). net.0 < length (nets_of parts)) cell.ins.items fits.inputs net input
        | inr last ↦ elim (member_cases net cell.out [] last) [ inl out ↦ subst (λ (z : NetId). z.0 < length (nets_of parts)) out fits.output | inr none ↦ elim none [ ] ]
      ] in
      subst (IsShortWord 11) same (net_word (get_or (nets_of parts) net.0 []) (Member-get_or (nets_of parts) net.0 [] within))

  wire_word : (x : List ℕ) → Member x (drop (length parts.ports) (nets_of parts)) → IsShortWord 11 x
  wire_word x m =
      net_word x (subst (Member x) (take-append-drop (length parts.ports) (nets_of parts)) (Member-append_right (take (length parts.ports) (nets_of parts)) x m))

  pub text_short : length (text_of (netlist_of parts)) ≤ MOST_BYTES
  text_short =
      let ports = ports-count models are small parts put in
      let cells = few_cells models are small parts put in
      let size = small.small in
      let same : length (map (cell_of (nets_of parts)) parts.cells) ≡ length parts.cells = length-map parts.cells (cell_of (nets_of parts)) in
      let nets = nets-le (netlist_of parts) is in
      let dropped = length-drop (length parts.ports) (nets_of parts) in
      let whole = text-le (netlist_of parts) (16 + length parts.ports * 7) (length parts.ports * 15) (length (drop (length parts.ports) (nets_of parts)) * 18) (length (map (cell_of (nets_of parts)) parts.cells) * 103)
      (header-le parts.«module» parts.ports title_word port_word)
      (lines-le port_line 15 parts.ports (All-from_members (λ (port : Port). length (port_line port) ≤ 15) parts.ports (λ port m. port-le port (port_word port m))))
      (lines-le wire_line 18 (drop (length parts.ports) (nets_of parts)) (All-from_members (λ net. length (wire_line net) ≤ 18) (drop (length parts.ports) (nets_of parts)) (λ net m. wire-le net (wire_word net m))))
      (lines-le (cell_line (nets_of parts)) 103 (map (cell_of (nets_of parts)) parts.cells) (All-from_members (λ (cell : Cell). length (cell_line (nets_of parts) cell) ≤ 103) (map (cell_of (nets_of parts)) parts.cells) (λ cell m. cell-le (nets_of parts) cell (cell_word cell m) (pin_word cell m)))) in
      sum_up (length (text_of (netlist_of parts))) (length parts.ports) (length (drop (length parts.ports) (nets_of parts))) (length (map (cell_of (nets_of parts)) parts.cells)) whole (omega (arith, ports)) (omega (arith, nets, dropped)) (omega (arith, same, cells, size))
