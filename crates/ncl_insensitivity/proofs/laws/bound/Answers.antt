use Rattle.ncl_insensitivity.proofs.Headline.{run_bound}
use Rattle.ncl_insensitivity.proofs.laws.bound.Goals as goal

pub returns : goal.returns
returns c = run_bound _ _ c.facts.ensures c.requires
