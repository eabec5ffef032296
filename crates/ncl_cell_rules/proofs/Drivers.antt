-- What drives a net of a netlist: an input port or one cell.
use Rattle.ncl_cell_rules.proofs.Terms.{All-contains, Bool, Cell, CellAt, CellFits, Contains-from_Member, Contains-from_slice_get, IsCell, IsInputPort, IsNetlist, List, Member-from_Contains, NetlistData, Some, [], ap, arith, cases_Bool, cases_lt, count_from_member, drivers_of, drives, eq-eqb, eqb-true, false, get_or, if◌then◌else◌, inl, inr, length, map, member_from_count, nat_eq, place_is_one, refl, slice_get, slice_get-from_Contains, suc, sym, zero, ℕ, ◌<◌, ◌∙◌, ◌∷◌, ◌≡◌, ◌≤◌, ◌⊎◌}
use Rattle.ncl_netlist.specs.declared.port.Port.{Port}

-- an input port drives its net
port_drives : (ports : List Port) (net : ℕ) (port : Port) → slice_get ports net ≡ Some port → port.output ≡ false → get_or (map drives ports) net 0 ≡ 1
port_drives [] net port at input = absurd cc
port_drives (first ∷ ports) zero port at input =
    let same : first ≡ port = cc in ap drives same ∙ ap (λ b. if b then 0 else 1) input
port_drives (first ∷ ports) (suc net) port at input = port_drives ports net port at input

-- and a port that drives its net is an input port
driving_port : (ports : List Port) (net : ℕ) → 1 ≤ get_or (map drives ports) net 0 → (port : Port) × (slice_get ports net ≡ Some port) × (port.output ≡ false)
driving_port [] net some = absurd (omega arith)
driving_port (first ∷ ports) zero some =
    elim (cases_Bool first.output) [
      | inl output ↦ let none : drives first ≡ 0 = ap (λ b. if b then 0 else 1) output in absurd (omega (arith, none))
      | inr input ↦ (first, refl, input)
    ]
driving_port (first ∷ ports) (suc net) some = driving_port ports net some

-- the cell has this output
abbrev drives_net : ℕ → Cell → Bool
drives_net net cell = nat_eq cell.out.0 net

-- a cell of the netlist fits it
pub cell_fits : (n : NetlistData) → IsNetlist n → (c : Cell) → IsCell n c → CellFits (length n.nets) c
cell_fits n is c in_c = All-contains (CellFits (length n.nets)) n.cells c is.fits in_c

-- cells with one output stand at one place
pub same_place : (n : NetlistData) → IsNetlist n → (i j : ℕ) (c d : Cell) → CellAt n i c → CellAt n j d → c.out.0 ≡ d.out.0 → i ≡ j
same_place n is i j c d at_c at_d same =
    let one : drivers_of n c.out.0 ≡ 1 = is.driven c.out.0 (cell_fits n is c (Contains-from_slice_get n.cells i c at_c)).output in
    place_is_one (drives_net c.out.0) n.cells (omega (arith, one)) i j c d at_c at_d (eq-eqb c.out.0 c.out.0 refl) (eq-eqb d.out.0 c.out.0 (sym same))

-- so they are one cell
pub same_driver : (n : NetlistData) → IsNetlist n → (c d : Cell) → IsCell n c → IsCell n d → c.out.0 ≡ d.out.0 → c ≡ d
same_driver n is c d in_c in_d same =
    let (i, at_c) = slice_get-from_Contains n.cells c in_c in
    let (j, at_d) = slice_get-from_Contains n.cells d in_d in
    let places : i ≡ j = same_place n is i j c d at_c at_d same in
    let cells : slice_get n.cells i ≡ slice_get n.cells j = ap (slice_get n.cells) places in
    cc

-- no cell drives an input port
pub no_cell_drives_port : (n : NetlistData) → IsNetlist n → (c : Cell) → IsCell n c → IsInputPort n c.out.0 → ⊥
no_cell_drives_port n is c in_c (port, at, input) =
    let one : drivers_of n c.out.0 ≡ 1 = is.driven c.out.0 (cell_fits n is c in_c).output in
    let by_port : get_or (map drives n.ports) c.out.0 0 ≡ 1 = port_drives n.ports c.out.0 port at input in
    let by_cell = count_from_member (drives_net c.out.0) c (Member-from_Contains n.cells c in_c) (eq-eqb c.out.0 c.out.0 refl) in
    omega (arith, one, by_port, by_cell)

-- each net is an input port, or some cell drives it
pub driver_of : (n : NetlistData) → IsNetlist n → (net : ℕ) → net < length n.nets → IsInputPort n net ⊎ ((c : Cell) × IsCell n c × (c.out.0 ≡ net))
driver_of n is net lt =
    let one : drivers_of n net ≡ 1 = is.driven net lt in
    elim (cases_lt 0 (get_or (map drives n.ports) net 0)) [
      | inl some ↦ inl (driving_port n.ports net (omega (arith, some)))
      | inr none ↦
          let (c, m, passes) = member_from_count (drives_net net) n.cells (omega (arith, one, none)) in
          inr (c, Contains-from_Member c m, eqb-true c.out.0 net passes)
    ]
