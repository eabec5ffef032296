use Rattle.ncl_graph.proofs.FirstCycles as cycles
use Rattle.ncl_graph.proofs.laws.first_or_none.Goals as goal

pub returns : goal.returns
returns c = cycles.first_or_none
