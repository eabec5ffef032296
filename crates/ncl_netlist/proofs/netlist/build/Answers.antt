use Rattle.ncl_netlist.proofs.Terms.{All, CellFits, IsFaultOf, IsNetlist, NetlistData, ap, arith, cell_of, inl, inr, length, length-map, netlist_of, nets_of, subst, sym, ◌∙◌, ◌≡◌}
use Rattle.ncl_netlist.proofs.Building.{Drafted, drafted, counted, passed_on, cells_fit, ports_within, is_netlist, faultless_by_counts, fault_by_counts}
use Rattle.ncl_netlist.proofs.netlist.build.Goals as goal
use Rattle.ncl_netlist.proofs.netlist.build.Goals.{In_ok-nets}

draft : (c : In_ok-nets) → Drafted c.args.parts c.in_ok-nets.nets.items c.in_ok-nets.cells.items
draft c = drafted c.args.parts c.items.result.now c.into_vec.result.items c.in_ok-nets.nets.items c.in_ok-nets.cells.items c.items.ensures c.into_vec.ensures c.in_ok-nets.ensures.nets c.in_ok-nets.ensures.cells

pub check_nets-requires-clause-ports : goal.check_nets-requires-clause-ports
check_nets-requires-clause-ports c =
    let nets = c.deref-2.ensures.value ∙ (draft (goal.at.check_nets-requires-clause-ports c).In_ok-nets).nets_are in
    omega (arith, ap length c.items-2.ensures, ap length nets, ports_within c.args.parts c.requires.ports_differ)

pub check_nets-requires-clause-fit : goal.check_nets-requires-clause-fit
check_nets-requires-clause-fit c =
    let are = draft (goal.at.check_nets-requires-clause-fit c).In_ok-nets in
    let fit = subst (All (CellFits (length (nets_of c.args.parts)))) (sym (c.deref.ensures.value ∙ are.cells_are)) (cells_fit c.args.parts c.requires.all_pins) in
    λ k d within. omega (arith, (fit k d within).output, ap length (c.deref-2.ensures.value ∙ are.nets_are))

pub returns-in_err-check_nets-clause-fault : goal.returns-in_err-check_nets-clause-fault
returns-in_err-check_nets-clause-fault c =
    let are = draft (goal.at.returns-in_err-check_nets-clause-fault c).In_ok-nets in
    let fault = c.in_err-check_nets.field-0.0 in
    passed_on (IsFaultOf c.args.parts) c.from_residual-in_err-check_nets.result fault c.from_residual-in_err-check_nets.ensures.1
    (elim c.in_err-check_nets.ensures.fault [
      | inl memory ↦ subst (IsFaultOf c.args.parts) (sym memory) tt
      | inr (counts, made, broken) ↦
          let count = counted c.args.parts _ _ _ _ _ counts are c.items-2.ensures c.deref.ensures.value c.deref-2.ensures.value made in
          fault_by_counts c.args.parts counts count c.in_ok-check_cells.ensures.ok c.deref-2.result.now fault (c.deref-2.ensures.value ∙ are.nets_are) broken
    ])

pub invariant_of-result : goal.invariant_of-result
invariant_of-result c =
    let parts = c.args.parts in
    let are = draft (goal.at.invariant_of-result c).In_ok-nets in
    let (counts, made, one) = c.in_ok-check_nets.ensures.ok in
    let count = counted parts _ _ _ _ _ counts are c.items-2.ensures c.deref.ensures.value c.deref-2.ensures.value made in
    let ports = c.into_vec-2.ensures in
    let whole : ◌≡◌ {A = NetlistData} (record { name = parts.«module»; ports = c.into_vec-2.result.items; nets = c.in_ok-nets.nets.items; cells = c.in_ok-nets.cells.items }) (netlist_of parts) =
    λ i. record { name = parts.«module»; ports = ports i; nets = are.nets_are i; cells = are.cells_are i } in
    subst IsNetlist (sym whole) (is_netlist parts c.requires.ports_differ c.requires.few_ports c.requires.all_pins (faultless_by_counts parts counts count c.in_ok-check_cells.ensures.ok one))

pub returns-clause-built : goal.returns-clause-built
returns-clause-built c =
    let are = draft (goal.at.returns-clause-built c).In_ok-nets in
    let ports = c.into_vec-2.ensures in
    λ i. record { name = c.args.parts.«module»; ports = ports i; nets = are.nets_are i; cells = are.cells_are i }

pub returns-clause-faultless : goal.returns-clause-faultless
returns-clause-faultless c =
    let (counts, made, one) = c.in_ok-check_nets.ensures.ok in
    let count = counted c.args.parts _ _ _ _ _ counts (draft (goal.at.returns-clause-faultless c).In_ok-nets) c.items-2.ensures c.deref.ensures.value c.deref-2.ensures.value made in
    faultless_by_counts c.args.parts counts count c.in_ok-check_cells.ensures.ok one

pub number_all-requires-clause-room : goal.number_all-requires-clause-room
number_all-requires-clause-room c = omega (arith, ap length c.items.ensures, ap length c.into_vec.ensures, c.requires.few_ports, c.in_ok-check_cells.ensures.ok.0)

pub check_nets-requires-clause-few : goal.check_nets-requires-clause-few
check_nets-requires-clause-few c =
    let are = draft (goal.at.check_nets-requires-clause-few c).In_ok-nets in
    omega (arith, ap length (c.deref.ensures.value ∙ are.cells_are), length-map c.args.parts.cells (cell_of (nets_of c.args.parts)), c.in_ok-check_cells.ensures.ok.0)
