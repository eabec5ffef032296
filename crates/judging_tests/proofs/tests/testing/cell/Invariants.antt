use Rattle.std.proofs.Common.{◌≡◌, map, take}
use Rattle.ncl_faults.specs.Examples.{net_id}
use Rattle.judging_tests.proofs.tests.testing.cell.Given as goal

-- the inputs so far
abbrev pub invariant-loop-net : goal.invariant-loop-net
invariant-loop-net l = l.pins.items ≡ map net_id (take l.net-index l.ins)
