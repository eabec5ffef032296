use Rattle.std.proofs.Common.{ap, ◌∙◌}
use Rattle.ncl_netlist.proofs.NameLists.{insert_all-turn}
use Rattle.ncl_netlist.proofs.numbering.add_ports.Goals as goal

pub loop-port-preserved : goal.loop-port-preserved
loop-port-preserved c =
    let name = c.in_ok-from_bytes.ensures ∙ c.bytes.ensures ∙ ap (λ port. port.name) c.port-item.is in
    insert_all-turn (λ port. port.name) c.args.ports.now c.loop-port.port-index c.port-item.result _ _ _ c.loop-port.invariant c.in_ok-insert.ensures.keys name c.loop-port-test.true
