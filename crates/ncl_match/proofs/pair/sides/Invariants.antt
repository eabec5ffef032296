use Rattle.ncl_match.proofs.Terms.{map, side_of, take, ◌≡◌}
use Rattle.ncl_match.proofs.pair.sides.Given as goal

-- the functions of the pairs so far, or their complements
abbrev pub invariant-loop-pair : goal.invariant-loop-pair
invariant-loop-pair l = l.found.items ≡ map (side_of l.one) (take l.pair-index l.pairs)
