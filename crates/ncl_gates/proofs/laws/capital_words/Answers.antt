use Rattle.ncl_gates.proofs.PinLaws.{cell_name_of-capital, pins_of-capital}
use Rattle.ncl_gates.proofs.laws.capital_words.Goals as goal

pub returns-clause-cells : goal.returns-clause-cells
returns-clause-cells c = cell_name_of-capital

pub returns-clause-pins : goal.returns-clause-pins
returns-clause-pins c = pins_of-capital
