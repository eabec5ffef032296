use Rattle.std.proofs.Common.{arith}
use Rattle.ncl_graph.proofs.Ranking.{leads_within}
use Rattle.ncl_graph.proofs.first_on_cycle.first_by_ranks.Goals as goal

pub returns : goal.returns
returns c i on =
    c.loop-place.invariant i (omega (arith, leads_within c.args.graph.now i i on, c.loop-place-test.false, c.len-place-end.ensures.len)) on
