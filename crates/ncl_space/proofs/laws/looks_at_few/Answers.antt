use Rattle.ncl_space.proofs.FreeLaws.{free}
use Rattle.ncl_space.proofs.laws.looks_at_few.Goals as goal

pub returns : goal.returns
returns c = free
