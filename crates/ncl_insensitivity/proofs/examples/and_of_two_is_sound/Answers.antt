use Rattle.ncl_insensitivity.proofs.IllShapedLaws.{and_stage-sound}
use Rattle.ncl_insensitivity.proofs.examples.and_of_two_is_sound.Goals as goal

pub returns : goal.returns
returns c = and_stage-sound
