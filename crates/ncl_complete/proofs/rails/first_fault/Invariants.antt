use Rattle.std.proofs.Common.{◌≡◌, ℕ, ◌<◌, None}
use Rattle.ncl_complete.proofs.OutputFaults.{output_fault}
use Rattle.ncl_complete.proofs.rails.first_fault.Given as goal

-- nothing is found of the outputs so far
abbrev pub invariant-loop-output : goal.invariant-loop-output
invariant-loop-output g l = (k : ℕ) → k < l.output → output_fault l.order l.stage k ≡ None
