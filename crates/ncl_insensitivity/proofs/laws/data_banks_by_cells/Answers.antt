use Rattle.ncl_insensitivity.proofs.Terms.{data_bank_by_cells}
use Rattle.ncl_insensitivity.proofs.laws.data_banks_by_cells.Goals as goal

pub returns : goal.returns
returns c = data_bank_by_cells
