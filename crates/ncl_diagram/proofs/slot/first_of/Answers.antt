use Rattle.ncl_diagram.proofs.Packing.{each_below, low_made}
use Rattle.ncl_diagram.proofs.slot.first_of.Goals as goal

pub returns : goal.returns
returns c all =
    let below = each_below 16777216 c.args.key all in
    low_made c.args.key.a.place c.args.key.b.place c.args.key.c.place below.0 below.1
