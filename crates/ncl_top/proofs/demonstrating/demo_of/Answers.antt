use Rattle.ncl_top.proofs.Demonstrated.{demo_has_shape}
use Rattle.ncl_top.proofs.demonstrating.demo_of.Goals as goal

pub unreachable-requires : goal.unreachable-requires
unreachable-requires c = demo_has_shape c.args.bits c.args.netlist.now c.requires c.in-Err.fault c.in_default.not-Memory c.in-Err.ensures.fault
