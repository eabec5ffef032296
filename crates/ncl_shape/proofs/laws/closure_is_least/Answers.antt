use Rattle.ncl_shape.proofs.ClosureLaws.{close-keeps, close-settled, close-least}
use Rattle.ncl_shape.proofs.laws.closure_is_least.Goals as goal

pub returns-clause-kept : goal.returns-clause-kept
returns-clause-kept c = close-keeps

pub returns-clause-settled : goal.returns-clause-settled
returns-clause-settled c = close-settled

pub returns-clause-least : goal.returns-clause-least
returns-clause-least c = close-least
