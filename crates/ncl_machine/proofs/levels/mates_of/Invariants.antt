use Rattle.ncl_machine.proofs.Terms.{None, get_or, length, mate_in, take, ℕ, ◌≡◌}
use Rattle.ncl_machine.proofs.levels.mates_of.Given as goal

abbrev pub invariant-loop-bit : goal.invariant-loop-bit
invariant-loop-bit l = record {
  as_many : length l.mates.items ≡ l.nets;
  each : (net : ℕ) → get_or l.mates.items net None ≡ mate_in (take l.bit-index l.bits) net;
}
