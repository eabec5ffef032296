use Rattle.ncl_cell_rules.proofs.Terms.{arith, range_with_len-more}
use Rattle.ncl_cell_rules.proofs.standing.first_places.Goals as goal

pub loop-place-preserved : goal.loop-place-preserved
loop-place-preserved c = let more = range_with_len-more 0 c.loop-place.place in grind arith
