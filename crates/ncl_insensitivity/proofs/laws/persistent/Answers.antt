use Rattle.ncl_insensitivity.proofs.Headline.{safe}
use Rattle.ncl_insensitivity.proofs.laws.persistent.Goals as goal

pub returns : goal.returns
returns c = (safe _ _ c.facts.ensures c.requires).persistent
