use Rattle.ncl_stage.proofs.Terms.{map, pin_places, take, ◌≡◌}
use Rattle.ncl_stage.proofs.wiring.places_of_cells.Given as goal

-- the places of the pins of the cells so far
abbrev pub invariant-loop-cell : goal.invariant-loop-cell
invariant-loop-cell l = map (λ p. p.items) l.places.items ≡ map (pin_places l.nets.keys) (take l.cell-index l.stage.cells)
