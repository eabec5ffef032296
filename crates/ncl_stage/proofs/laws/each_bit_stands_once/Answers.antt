use Rattle.ncl_stage.proofs.OrderedTables.{order-is}
use Rattle.ncl_stage.proofs.laws.each_bit_stands_once.Goals as goal

pub returns : goal.returns
returns c = order-is
