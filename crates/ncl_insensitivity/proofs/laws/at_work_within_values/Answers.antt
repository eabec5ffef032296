use Rattle.ncl_insensitivity.proofs.Terms.{falling-within, rising-within}
use Rattle.ncl_insensitivity.proofs.laws.at_work_within_values.Goals as goal

pub returns-clause-rising : goal.returns-clause-rising
returns-clause-rising c = rising-within

pub returns-clause-falling : goal.returns-clause-falling
returns-clause-falling c = falling-within
