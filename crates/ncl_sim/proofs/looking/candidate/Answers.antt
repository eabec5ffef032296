use Rattle.ncl_sim.proofs.TouchedLaws.{arith, ki-within}
use Rattle.ncl_sim.proofs.looking.candidate.Goals as goal

pub value-requires : goal.value-requires
value-requires c = omega (arith, ki-within c.args.pipeline.now c.ki.ensures.shape, c.ki.ensures.ki, c.requires.made.values)
