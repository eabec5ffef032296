use Rattle.ncl_merge.proofs.Terms.{IsFaultOf-excludes}
use Rattle.ncl_merge.proofs.rebuilding.built.Goals as goal

-- no rule is broken, so `build` fails for want of memory alone
pub unreachable-requires : goal.unreachable-requires
unreachable-requires c = c.in_default.not-Memory (IsFaultOf-excludes c.args.parts c.in-Err.fault c.in-Err.ensures.fault c.requires.faultless)
