use Rattle.ncl_stage.proofs.Terms.{map, rail_places, take, ◌≡◌}
use Rattle.ncl_stage.proofs.wiring.places_of_outputs.Given as goal

-- the places of the rails of the outputs so far
abbrev pub invariant-loop-pair : goal.invariant-loop-pair
invariant-loop-pair l = l.places.items ≡ map (rail_places l.nets.keys) (take l.pair-index l.stage.outputs)
