use Rattle.std.proofs.Common.{length}
use Rattle.ncl_rails.proofs.NetNames.{pair_in_range}
use Rattle.ncl_rails.proofs.naming.names_of_pairs.Goals as goal

pub name_of_pair-requires-clause-zero : goal.name_of_pair-requires-clause-zero
name_of_pair-requires-clause-zero c = (pair_in_range (length c.args.ins.now) c.args.pairs.now c.requires c.loop-pair.pair-index _ c.loop-pair-test.true).0

pub name_of_pair-requires-clause-one : goal.name_of_pair-requires-clause-one
name_of_pair-requires-clause-one c = (pair_in_range (length c.args.ins.now) c.args.pairs.now c.requires c.loop-pair.pair-index _ c.loop-pair-test.true).1
