use Rattle.ncl_gates.proofs.NameLaws.{name_of-distinct, cell_name_of-distinct}
use Rattle.ncl_gates.proofs.laws.names.Goals as goal

pub returns-clause-gates : goal.returns-clause-gates
returns-clause-gates c = name_of-distinct

pub returns-clause-cells : goal.returns-clause-cells
returns-clause-cells c = cell_name_of-distinct
