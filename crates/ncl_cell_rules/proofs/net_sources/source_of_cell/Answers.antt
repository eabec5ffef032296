use Rattle.ncl_cell_rules.proofs.Terms.{B, IsSummary, OfNets, OnPin, ap, arith, get_or, inl, inr, is_register, subst, true, ◌≡◌}
use Rattle.ncl_cell_rules.proofs.PinNumbers.{no_net, register_pins, on_pin_of}
use Rattle.ncl_cell_rules.proofs.SourceSteps.{gate_source, register_source, ack_source}
use Rattle.ncl_cell_rules.proofs.net_sources.source_of_cell.Goals as goal

pub returns-in-Gate : goal.returns-in-Gate
returns-in-Gate c =
    gate_source c.args.netlist.now c.requires.drivers.netlist c.args.cell.now c.requires.in_netlist (c.in-Gate.field-0, c.in-Gate.is) c.source_of_nets.result
    (subst (λ nets. IsSummary (OfNets c.args.netlist.now nets) c.source_of_nets.result) c.as_slice.ensures.value c.source_of_nets.ensures)

pub returns-in-Register : goal.returns-in-Register
returns-in-Register c =
    let n = c.args.netlist.now in
    let is = c.requires.drivers.netlist in
    let register : is_register c.args.cell.now.kind ≡ true = elim c.in-Register.is [ inl plain ↦ ap is_register plain | inr high ↦ ap is_register high ] in
    let pins = register_pins n is c.args.cell.now c.requires.in_netlist register in
    let on : OnPin c.args.cell.now B (get_or c.deref.result.now 1 no_net).0 = on_pin_of c.args.cell.now 1 c.deref.result.now c.deref.ensures.0 (omega (arith, pins)) in
    register_source n is c.args.cell.now (get_or c.deref.result.now 1 no_net) (c.requires.in_netlist, register, on)

pub returns-in-Ack : goal.returns-in-Ack
returns-in-Ack c = ack_source c.args.netlist.now c.requires.drivers.netlist c.args.cell.now c.bank_of_ack.result c.bank_of_ack.ensures
