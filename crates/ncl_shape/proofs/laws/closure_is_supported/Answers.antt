use Rattle.ncl_shape.proofs.ClosureLaws.{close-support}
use Rattle.ncl_shape.proofs.laws.closure_is_supported.Goals as goal

pub returns : goal.returns
returns c = close-support
