use Rattle.ncl_shape.proofs.ClosureLaws.{close-grows}
use Rattle.ncl_shape.proofs.laws.closure_grows.Goals as goal

pub returns : goal.returns
returns c = close-grows
