use Rattle.ncl_merge.proofs.Keeping.{sound-unbroken}
use Rattle.ncl_merge.proofs.merging.pipeline_of.Goals as goal

pub unreachable-requires : goal.unreachable-requires
unreachable-requires c = sound-unbroken c.args.netlist.now c.requires c.in-Err.fault c.in_default.not-Memory c.in-Err.ensures.fault
