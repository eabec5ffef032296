use Rattle.ncl_writer.proofs.Terms.{Port, map, spelled_name, take, ◌++◌, ◌+◌, ◌∙◌}
use Rattle.ncl_writer.proofs.Opened.{Opens-more, map-more}
use Rattle.ncl_writer.proofs.row_text.push_ports.Goals as goal

pub loop-port-preserved : goal.loop-port-preserved
loop-port-preserved c =
    let name : Port → _ = λ port. spelled_name port.name in
    Opens-more c.loop-port.text.items c.args.text.now.items c.loop-port.front (map name (take c.loop-port.port-index c.args.ports.now)) (map name (take (c.loop-port.port-index + 1) c.args.ports.now)) (name c.port-item.result) c.push_name.new.text.items c.loop-port.invariant
    (map-more name c.args.ports.now c.loop-port.port-index c.port-item.result c.loop-port-test.true c.port-item.is)
    (c.in_ok-push_name.ensures ∙ (λ i. c.in_ok-push.ensures.items i ++ spelled_name (c.bytes.ensures i)))
