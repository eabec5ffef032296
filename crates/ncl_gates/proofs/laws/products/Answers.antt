use Rattle.ncl_gates.proofs.GateLaws.{products-within}
use Rattle.ncl_gates.proofs.laws.products.Goals as goal

pub returns : goal.returns
returns c = products-within
