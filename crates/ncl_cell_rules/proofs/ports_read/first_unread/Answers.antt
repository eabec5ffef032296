use Rattle.ncl_cell_rules.proofs.Terms.{IsReadPort, ap, arith, below_more, length, slice_get_within}
use Rattle.ncl_cell_rules.proofs.PortReads.{port_read, read_port, unread_port, no_input}
use Rattle.ncl_cell_rules.proofs.ports_read.first_unread.Goals as goal
use Rattle.ncl_cell_rules.proofs.ports_read.first_unread.Goals.{else-not-port-via-then-not-port+else-not-reads-net, else-not-port-via-else-not-port}

pub returns-then-not-reads-net : goal.returns-then-not-reads-net
returns-then-not-reads-net c = record {
  fails = unread_port c.args.netlist.now c.ports-port-items.ensures.netlist c.args.reads.now c.requires c.loop-net.net c.port-item.result
      (port_read c.args.netlist.now _ c.loop-net.net c.port-item.result c.ports-port-items.ensures.ports c.loop-net-test.true c.port-item.is) c.if-not-port.true c.if-not-reads-net.true;
  before = c.loop-net.invariant;
}

pub loop-net-preserved : goal.loop-net-preserved
loop-net-preserved c =
    let at = port_read c.args.netlist.now _ c.loop-net.net c.port-item.result c.ports-port-items.ensures.ports c.loop-net-test.true c.port-item.is in
    below_more (IsReadPort c.args.netlist.now) c.loop-net.net c.loop-net.invariant
    (elim c.else-not-port.branch [
      | else-not-port-via-then-not-port+else-not-reads-net w ↦ read_port c.args.netlist.now c.ports-port-items.ensures.netlist c.args.reads.now c.requires c.loop-net.net c.port-item.result at w.if-not-reads-net.false
      | else-not-port-via-else-not-port w ↦ no_input c.args.netlist.now c.loop-net.net c.port-item.result at w.if-not-port.false
    ])

pub returns : goal.returns
returns c = λ net input.
    let (port, at, is_input) = input in
    let within = slice_get_within c.args.netlist.now.ports net port at in
    let same = ap length c.ports-port-items.ensures.ports in
    c.loop-net.invariant net (omega (arith, within, same, c.loop-net-test.false)) input
