use Rattle.ncl_reader.proofs.Bits.{all_digits}
use Rattle.ncl_reader.proofs.number.small.Goals as goal

pub small_value-requires : goal.small_value-requires
small_value-requires c = all_digits c.args.number.digits.now c.args.number.are_digits
