use Rattle.ncl_stage.proofs.SoundLaws.{observed_from_sound}
use Rattle.ncl_stage.proofs.laws.sound_is_observed.Goals as goal

pub returns : goal.returns
returns c = observed_from_sound
