use Rattle.ncl_machine.proofs.Terms.{Rails, map, net_values, take, ◌≡◌}
use Rattle.ncl_machine.proofs.levels.pair_of.Given as goal

abbrev pub invariant-loop-bit : goal.invariant-loop-bit
invariant-loop-bit l = record {
  zero : l.rail0 ≡ map (λ (r : Rails). net_values l.values r.zero.0) (take l.bit-index l.bits);
  one : l.rail1 ≡ map (λ (r : Rails). net_values l.values r.one.0) (take l.bit-index l.bits);
}
