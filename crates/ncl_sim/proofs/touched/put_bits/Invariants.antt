use Rattle.ncl_sim.proofs.Terms.{Contains, Grows, items_at, ℕ, ◌+◌, ◌<◌, ◌≤◌}
use Rattle.ncl_sim.proofs.touched.put_bits.Given as goal

abbrev pub invariant-loop-bit : goal.invariant-loop-bit
invariant-loop-bit l =
    ((count : ℕ) → l.cells + l.bits ≤ count → Grows count l.initial.table l.table)
    × ((j : ℕ) → j < l.bit → Contains (items_at l.table l.ko.0) (l.cells + j))
