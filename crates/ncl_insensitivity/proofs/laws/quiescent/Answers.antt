use Rattle.ncl_insensitivity.proofs.Headline.{delay_insensitive, rests_where_quiet}
use Rattle.ncl_insensitivity.proofs.laws.quiescent.Goals as goal

pub returns-clause-rests : goal.returns-clause-rests
returns-clause-rests c = rests_where_quiet _ _ c.facts.ensures c.requires

pub returns-clause-insensitive : goal.returns-clause-insensitive
returns-clause-insensitive c = delay_insensitive _ _ c.facts.ensures c.requires
