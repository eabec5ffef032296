use Rattle.ncl_blif.proofs.Terms.{arith, range_with_len-more}
use Rattle.ncl_blif.proofs.finish.first_numbers.Goals as goal

pub loop-number-preserved : goal.loop-number-preserved
loop-number-preserved c = let more = range_with_len-more 0 c.loop-number.number in grind arith
