-- An operation on signals, added to small nodes.
use Rattle.std.specs.Prelude.{ℕ, List, length}
use Rattle.ncl_network.specs.declared.network.Signal.{Signal}
use Rattle.ncl_network.specs.Network.{signal_value, IsSource}
use Rattle.ncl_plans.specs.declared.small.Op.{Op}
use Rattle.ncl_plans.specs.declared.small.Small.{Small}
use Rattle.ncl_plans.specs.Smalls.{op_value}
use Rattle.ncl_plans.specs.Pools.{IsPool, Adds}

-- after small nodes that are in order, and signals that exist there, a signal has the bit of the operation
abbrev pub AddsOp : Op → Signal → Signal → Signal → List Small → List Small → Signal → Type 0
AddsOp op s t u before after signal =
    (inputs : ℕ) → IsPool inputs before → IsSource inputs (length before) s.from → IsSource inputs (length before) t.from → IsSource inputs (length before) u.from → Adds inputs before after (λ word nodes. op_value op (signal_value word nodes s) (signal_value word nodes t) (signal_value word nodes u)) signal
