use Rattle.ncl_space.proofs.BoundLaws.{bead_count-bounded}
use Rattle.ncl_space.proofs.laws.few_bits_few_beads.Goals as goal

pub returns : goal.returns
returns c = bead_count-bounded
