use Rattle.ncl_stage.proofs.ObservedLaws.{sound_from_observed}
use Rattle.ncl_stage.proofs.laws.observed_is_sound.Goals as goal

pub returns : goal.returns
returns c = sound_from_observed
