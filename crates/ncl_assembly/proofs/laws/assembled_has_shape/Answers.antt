use Rattle.ncl_assembly.proofs.AssembledShape.{Shape-from_assembled}
use Rattle.ncl_assembly.proofs.laws.assembled_has_shape.Goals as goal

pub returns : goal.returns
returns c = Shape-from_assembled
