use Rattle.ncl_rails.proofs.Terms.{map, name_of_pair, pair_names, take, ◌≡◌}
use Rattle.ncl_rails.proofs.naming.names_of_pairs.Given as goal

abbrev pub invariant-loop-pair : goal.invariant-loop-pair
invariant-loop-pair l = l.names.items ≡ map (name_of_pair (pair_names l.ins) l.prefix) (take l.pair-index l.pairs)
