use Rattle.ncl_compile.proofs.Terms.{[], map, port_pair, range_with_len, ◌-◌, ◌∷◌, ◌≡◌}
use Rattle.ncl_compile.proofs.naming.port_pairs.Given as goal

abbrev pub invariant-loop-number : goal.invariant-loop-number
invariant-loop-number l = l.pairs.items ≡ map (port_pair (l.letter ∷ [])) (range_with_len 1 (l.number - 1))
