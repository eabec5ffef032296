use Rattle.ncl_cells.proofs.Terms.{All, length, take, ◌≡◌}
use Rattle.ncl_cells.proofs.offer.have_width.Given as goal

abbrev pub invariant-loop-row : goal.invariant-loop-row
invariant-loop-row l = All (λ row. length row ≡ l.width) (take l.row-index l.rows)
