use Rattle.ncl_shape.proofs.ShapeLaws.{shape_is_one}
use Rattle.ncl_shape.proofs.laws.shape_is_one.Goals as goal

pub returns : goal.returns
returns c = λ n p q shape_p shape_q. shape_is_one n shape_p.is_netlist p q shape_p shape_q
