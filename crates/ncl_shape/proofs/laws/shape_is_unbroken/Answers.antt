use Rattle.ncl_shape.proofs.FaultLaws.{shape_is_unbroken}
use Rattle.ncl_shape.proofs.laws.shape_is_unbroken.Goals as goal

pub returns : goal.returns
returns c = λ n p fault shape broken. shape_is_unbroken n shape.is_netlist p shape fault broken.breaks
