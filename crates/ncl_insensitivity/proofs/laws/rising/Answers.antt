use Rattle.ncl_insensitivity.proofs.RisingLaws.{rising-safely}
use Rattle.ncl_insensitivity.proofs.laws.rising.Goals as goal

pub returns : goal.returns
returns c = rising-safely c.args.stage.now c.facts.ensures c.requires
