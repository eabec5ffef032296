use Rattle.ncl_reader.proofs.WholeRules as whole
use Rattle.ncl_reader.proofs.laws.whole_rules.Goals as goal

pub returns : goal.returns
returns c = whole.whole_rules
