use Rattle.ncl_verdict.proofs.Accepting.{sound_verdict}
use Rattle.ncl_verdict.proofs.laws.sound_is_accepted.Goals as goal

pub returns : goal.returns
returns c = sound_verdict
