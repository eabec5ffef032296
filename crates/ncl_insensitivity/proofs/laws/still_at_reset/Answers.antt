use Rattle.ncl_insensitivity.proofs.StartKept.{quiet_at_reset_of}
use Rattle.ncl_insensitivity.proofs.laws.still_at_reset.Goals as goal

pub returns : goal.returns
returns c = quiet_at_reset_of
