use Rattle.ncl_shape.proofs.FaultLaws.{first_broken_is_one}
use Rattle.ncl_shape.proofs.laws.first_broken_is_one.Goals as goal

pub returns : goal.returns
returns c = λ n f g is broken_f broken_g. first_broken_is_one n is f g broken_f broken_g
