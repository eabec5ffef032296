use Rattle.std.proofs.Common.{sym, ◌∙◌}
use Rattle.ncl_blif.proofs.Places.{place-none}
use Rattle.ncl_blif.proofs.piece.place_of.Goals as goal

pub returns-in-None-clause-place : goal.returns-in-None-clause-place
returns-in-None-clause-place c = place-none _ _ (sym c.in-None.is ∙ c.first_place.ensures)
