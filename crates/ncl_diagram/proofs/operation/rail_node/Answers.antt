use Rattle.ncl_diagram.proofs.Rails.{leaves_rail}
use Rattle.ncl_diagram.proofs.operation.rail_node.Goals as goal

pub returns : goal.returns
returns g c =
    leaves_rail c.args.width c.args.limit c.args.nodes.now c.join.new.nodes c.args.bit c.args.value c.constant-low.result.place c.constant-high.result.place c.join.result c.requires.canonical c.requires.bit
    c.constant-low.ensures c.constant-high.ensures c.join.ensures.joins c.join.ensures.few c.join.ensures.leads c.join.ensures.err c.join.ensures.full c.join.ensures.absent
