use Rattle.ncl_reaching.proofs.Terms.{AreSoundWhereReached, chain, ◌≡◌}
use Rattle.ncl_reaching.proofs.reaching.reach.Given as goal

-- the chain has the stages so far, which show no fault at words that inputs bring to them
abbrev pub invariant-loop-stage : goal.invariant-loop-stage
invariant-loop-stage l = record {
  chained : l.chain ≡ chain l.pipeline l.stage-index;
  sound : AreSoundWhereReached l.pipeline l.stage-index;
}
