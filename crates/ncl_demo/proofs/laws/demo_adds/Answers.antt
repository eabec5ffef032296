use Rattle.ncl_demo.proofs.Carrying.{adds}
use Rattle.ncl_demo.proofs.laws.demo_adds.Goals as goal

pub returns : goal.returns
returns c bits a b = adds bits a b
