-- The parts that say a netlist describe it again.
use Rattle.ncl_netlist.proofs.Terms.{All, All-head, All-tail, AllDiffer, Cell, CellFits, IsFaultless, IsNetlist, List, NetId, NetlistData, [], ap, arith, cell_of, drivers_at, drivers_of, flat_map, get_or, get_or_at, input_names, length, length-append, length-map, map, map-append, name_number, net_of, netlist_of, nets_of, once_each, output_name, part_of, parts_said, pin_names, refl, subst, sym, take, take_at, ℕ, ◌++◌, ◌-◌, ◌<◌, ◌∙◌, ◌∷◌, ◌≡◌}
use Rattle.ncl_netlist.proofs.NameLists.{name_number-get_or}

-- the numbers of the names of nets are those of the nets, where names differ
numbers-of_names : (nets : List (List ℕ)) (ids : List NetId) → AllDiffer nets → All (λ net. net.0 < length nets) ids → map (net_of nets) (map (λ (net : NetId). get_or nets net.0 []) ids) ≡ ids
numbers-of_names nets [] differ within = refl
numbers-of_names nets (net ∷ ids) differ within =
    let first = name_number-get_or nets net.0 [] differ (All-head (λ (one : NetId). one.0 < length nets) net ids within) in
    let rest = numbers-of_names nets ids differ (All-tail (λ (one : NetId). one.0 < length nets) net ids within) in
    λ i. record { 0 = first i } ∷ rest i

-- a cell whose nets are named, and then numbered again
cell_of-part_of : (nets : List (List ℕ)) (cell : Cell) → AllDiffer nets → CellFits (length nets) cell → cell_of nets (part_of nets cell) ≡ cell
cell_of-part_of nets cell differ fits =
    let name : NetId → List ℕ = λ net. get_or nets net.0 [] in
    let pins : pin_names nets cell ≡ map name cell.ins.items ++ name cell.out ∷ [] = map-append name cell.ins.items (cell.out ∷ []) in
    let last : length (pin_names nets cell) - 1 ≡ length (map name cell.ins.items) = omega (arith, ap length pins, length-append (map name cell.ins.items) (name cell.out ∷ [])) in
    let inputs : input_names (part_of nets cell) ≡ map name cell.ins.items =
    ap (λ k. take k (pin_names nets cell)) last ∙ ap (take (length (map name cell.ins.items))) pins ∙ take_at (map name cell.ins.items) (name cell.out ∷ []) (length (map name cell.ins.items)) refl in
    let output : output_name (part_of nets cell) ≡ name cell.out =
    ap (λ k. get_or (pin_names nets cell) k []) last ∙ ap (λ l. get_or l (length (map name cell.ins.items)) []) pins ∙ get_or_at (map name cell.ins.items) (name cell.out) [] [] (length (map name cell.ins.items)) refl in
    let items : map (net_of nets) (input_names (part_of nets cell)) ≡ cell.ins.items = ap (map (net_of nets)) inputs ∙ numbers-of_names nets cell.ins.items differ fits.inputs in
    let out : name_number nets (output_name (part_of nets cell)) ≡ cell.out.0 = ap (name_number nets) output ∙ name_number-get_or nets cell.out.0 [] differ fits.output in
    λ i. record { kind = cell.kind; name = cell.name; ins = record { items = items i }; out = record { 0 = out i } }

cells_of-parts_of : (nets : List (List ℕ)) (cells : List Cell) → AllDiffer nets → All (CellFits (length nets)) cells → map (cell_of nets) (map (part_of nets) cells) ≡ cells
cells_of-parts_of nets [] differ fits = refl
cells_of-parts_of nets (c ∷ cells) differ fits =
    let first = cell_of-part_of nets c differ (All-head (CellFits (length nets)) c cells fits) in
    let rest = cells_of-parts_of nets cells differ (All-tail (CellFits (length nets)) c cells fits) in
    λ i. first i ∷ rest i

-- what the parts say of pins and of names
pins_said : (nets : List (List ℕ)) (cells : List Cell) → flat_map (λ cell. cell.pins) (map (part_of nets) cells) ≡ flat_map (pin_names nets) cells
pins_said nets [] = refl
pins_said nets (c ∷ cells) = ap (λ l. pin_names nets c ++ l) (pins_said nets cells)

names_said : (nets : List (List ℕ)) (cells : List Cell) → map (λ cell. cell.name) (map (part_of nets) cells) ≡ map (λ (cell : Cell). cell.name) cells
names_said nets [] = refl
names_said nets (c ∷ cells) = ap (λ l. c.name ∷ l) (names_said nets cells)

module _ (n : NetlistData) (ok : IsNetlist n) where
  -- the nets of the parts are those of the netlist
  pub nets_of-parts_said : nets_of (parts_said n) ≡ n.nets
  nets_of-parts_said = ap (λ l. once_each (map (λ port. port.name) n.ports ++ l)) (pins_said n.nets n.cells) ∙ sym ok.in_order

  pub netlist_of-parts_said : netlist_of (parts_said n) ≡ n
  netlist_of-parts_said =
      let nets = nets_of-parts_said in
      let cells : map (cell_of (nets_of (parts_said n))) (map (part_of n.nets) n.cells) ≡ n.cells =
      ap (λ l. map (cell_of l) (map (part_of n.nets) n.cells)) nets ∙ cells_of-parts_of n.nets n.cells ok.net_names ok.fits in
      λ i. record { name = n.name; ports = n.ports; nets = nets i; cells = cells i }

  pub faultless-parts_said : IsFaultless (parts_said n)
  faultless-parts_said =
      let drivers : (net : ℕ) → net < length (nets_of (parts_said n)) → drivers_at (parts_said n) net ≡ 1 =
      λ net within. ap (λ m. drivers_of m net) netlist_of-parts_said ∙ ok.driven net (subst (λ l. net < length l) nets_of-parts_said within) in (
        omega (arith, ok.few_cells, length-map n.cells (part_of n.nets)),
        subst AllDiffer (sym (names_said n.nets n.cells)) ok.cell_names,
        (λ net within. omega (arith, drivers net within)),
        λ net within. omega (arith, drivers net within),
      )
