use Rattle.ncl_insensitivity.proofs.Headline.{safe}
use Rattle.ncl_insensitivity.proofs.laws.prefix.Goals as goal

pub returns-clause-due : goal.returns-clause-due
returns-clause-due c = (safe _ _ c.facts.ensures c.requires).due

pub returns-clause-in_time : goal.returns-clause-in_time
returns-clause-in_time c = (safe _ _ c.facts.ensures c.requires).in_time

pub returns-clause-alternates : goal.returns-clause-alternates
returns-clause-alternates c = (safe _ _ c.facts.ensures c.requires).alternates

pub returns-clause-legal : goal.returns-clause-legal
returns-clause-legal c = (safe _ _ c.facts.ensures c.requires).legal

pub returns-clause-safe : goal.returns-clause-safe
returns-clause-safe c = safe _ _ c.facts.ensures c.requires
