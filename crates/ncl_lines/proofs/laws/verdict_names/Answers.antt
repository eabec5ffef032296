use Rattle.ncl_lines.proofs.NamedPlaces.{names_cell_of}
use Rattle.ncl_lines.proofs.laws.verdict_names.Goals as goal

pub returns : goal.returns
returns c = names_cell_of
