use Rattle.ncl_verdict.proofs.Sound.{judgement-sound}
use Rattle.ncl_verdict.proofs.laws.accepted_is_sound.Goals as goal

pub returns : goal.returns
returns c = judgement-sound
