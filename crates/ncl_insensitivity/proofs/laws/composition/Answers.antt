use Rattle.ncl_insensitivity.proofs.Headline.{is_composition}
use Rattle.ncl_insensitivity.proofs.laws.composition.Goals as goal

pub returns : goal.returns
returns c = is_composition
