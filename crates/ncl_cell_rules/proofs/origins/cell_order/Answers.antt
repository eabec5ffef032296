use Rattle.ncl_cell_rules.proofs.Terms.{IsOnCycle, IsOrder, OnTrue_at, ap, gate_graph, length, order_excludes_cycles, range_with_len, subst, sym, ◌∙◌}
use Rattle.ncl_cell_rules.proofs.InOrder.{order_as_they_stand}
use Rattle.ncl_cell_rules.proofs.OrderSteps.{order_of_cells, off_cycles, on_cycle, cell_on_cycle}
use Rattle.ncl_cell_rules.proofs.origins.cell_order.Goals as goal

-- the places in a row are an order of the graph
in_a_row : (c : goal.In_ok-first_places) → IsOrder (gate_graph c.args.netlist.now c.args.drivers.now) c.in_ok-first_places.field-0.items
in_a_row c =
    let row = c.in_ok-first_places.ensures ∙ ap (λ l. range_with_len 0 (length l)) c.cells.ensures.cells in
    subst (IsOrder (gate_graph c.args.netlist.now c.args.drivers.now)) (sym row)
    (order_as_they_stand c.args.netlist.now c.requires.netlist c.args.drivers.now c.requires (OnTrue_at c.if-are_in_order.true c.are_in_order.ensures))

pub returns-then-are_in_order-clause-order : goal.returns-then-are_in_order-clause-order
returns-then-are_in_order-clause-order c = order_of_cells c.args.netlist.now c.requires.netlist c.args.drivers.now c.requires c.in_ok-first_places.field-0.items (in_a_row c)

pub returns-then-are_in_order-clause-off_cycles : goal.returns-then-are_in_order-clause-off_cycles
returns-then-are_in_order-clause-off_cycles c = λ k.
    off_cycles c.args.netlist.now c.requires.netlist c.args.drivers.now c.requires k (order_excludes_cycles (gate_graph c.args.netlist.now c.args.drivers.now) c.in_ok-first_places.field-0.items (in_a_row c) k)

pub returns-in-Some-clause-order : goal.returns-in-Some-clause-order
returns-in-Some-clause-order c =
    order_of_cells c.args.netlist.now c.requires.netlist c.args.drivers.now c.requires c.in-Some.order.items
    (subst (λ g. IsOrder g c.in-Some.order.items) c.in_ok-graph.ensures (rw c.in-Some.is at c.in_ok-order.ensures))

pub returns-in-Some-clause-off_cycles : goal.returns-in-Some-clause-off_cycles
returns-in-Some-clause-off_cycles c = λ k.
    let ordered = subst (λ g. IsOrder g c.in-Some.order.items) c.in_ok-graph.ensures (rw c.in-Some.is at c.in_ok-order.ensures) in
    off_cycles c.args.netlist.now c.requires.netlist c.args.drivers.now c.requires k (order_excludes_cycles (gate_graph c.args.netlist.now c.args.drivers.now) c.in-Some.order.items ordered k)

pub returns-clause-fault : goal.returns-clause-fault
returns-clause-fault c =
    let found = rw c.in-Some-2.is at c.in_ok-place.ensures in
    let n = c.args.netlist.now in
    let drivers = c.args.drivers.now in
    let graph = c.in_ok-graph.ensures in
    record {
      fails = λ all.
          let on = subst (λ g. IsOnCycle g c.in-Some-2.place) graph found.0 in
          let (cell, at) = cell_on_cycle n c.requires.netlist drivers c.requires c.in-Some-2.place on in
          on_cycle n c.requires.netlist drivers c.requires c.in-Some-2.place cell at on (all cell at);
      before = λ j lt. off_cycles n c.requires.netlist drivers c.requires j (subst (λ g. IsOnCycle g j → ⊥) graph (found.1 j lt));
    }
