use Rattle.ncl_reader.proofs.Bits.{all_digits}
use Rattle.ncl_reader.proofs.number.is_outside.Goals as goal

pub lies_outside-requires : goal.lies_outside-requires
lies_outside-requires c = all_digits c.args.number.digits.now c.args.number.are_digits
