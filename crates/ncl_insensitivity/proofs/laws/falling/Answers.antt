use Rattle.ncl_insensitivity.proofs.Terms.{falling-safely}
use Rattle.ncl_insensitivity.proofs.laws.falling.Goals as goal

pub returns : goal.returns
returns c = falling-safely c.args.stage.now c.facts.ensures c.requires
