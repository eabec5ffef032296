use Rattle.ncl_lines.proofs.NamedPlaces.{names_place_of}
use Rattle.ncl_lines.proofs.laws.shape_fault_names.Goals as goal

pub returns : goal.returns
returns c = names_place_of
