use Rattle.ncl_compile.proofs.Terms.{pair_names, ports_named, ◌++◌, ◌≡◌}
use Rattle.ncl_compile.proofs.putting.add_pairs.Given as goal

abbrev pub invariant-loop-pair : goal.invariant-loop-pair
invariant-loop-pair l = l.ports.items ≡ l.initial.ports.items ++ ports_named l.output (pair_names l.yielded)
