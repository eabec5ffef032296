use Rattle.ncl_cell_rules.specs.Origin.{AcksBank}
use Rattle.ncl_cell_rules.proofs.OriginLaws.{place_of}
use Rattle.ncl_cell_rules.proofs.BitTests.{acks_behind, acks_by_behind}
use Rattle.ncl_cell_rules.proofs.net_sources.bank_of_ack.Goals as goal

pub unreachable-requires : goal.unreachable-requires
unreachable-requires c =
    let n = c.args.netlist.now in
    let cell = c.args.cell.now in
    let (place, at) = place_of n cell c.requires.in_netlist in
    let bit = (c.requires.paired place cell at).ack c.requires.ack in
    let acks : AcksBank n bit.request cell = (c.requires.in_netlist, c.requires.ack, (bit.zero, bit.zero_of, bit.on_a)) in
    let (k, behind) = acks_behind n c.requires.drivers.netlist cell c.requires.in_netlist c.requires.ack _ c.deref.ensures.0 bit.request acks in
    c.in-None.ensures.none k bit.request behind

pub returns : goal.returns
returns c = acks_by_behind c.args.netlist.now c.requires.drivers.netlist c.args.cell.now c.requires.in_netlist c.requires.ack _ c.deref.ensures.0 _ _ c.in-Some.ensures.some
