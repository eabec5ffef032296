use Rattle.ncl_insensitivity.proofs.HeldDue.{delivered-within}
use Rattle.ncl_insensitivity.proofs.laws.delivers_no_more.Goals as goal

pub returns : goal.returns
returns c = delivered-within
