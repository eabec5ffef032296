use Rattle.ncl_insensitivity.proofs.Terms.{reset_of}
use Rattle.ncl_insensitivity.proofs.laws.high_at_reset.Goals as goal

pub returns : goal.returns
returns c = reset_of
