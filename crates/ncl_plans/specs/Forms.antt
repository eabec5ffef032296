-- What an operation on signals comes to: a signal that there is, or a small node.
use Rattle.std.specs.Prelude.{◌≡◌, ℕ, List, Bool, false, not, cond, All, ◌⊎◌}
use Rattle.ncl_network.specs.declared.network.SignalSource.TheVariants.{Const}
use Rattle.ncl_network.specs.declared.network.Signal.{Signal}
use Rattle.ncl_network.specs.Network.{signal_value, is_constant, IsSource}
use Rattle.ncl_plans.specs.declared.small.Op.{Op}
use Rattle.ncl_plans.specs.declared.small.Small.{Small}
use Rattle.ncl_plans.specs.declared.form.Form.{Form}
use Rattle.ncl_plans.specs.declared.form.Form.TheVariants.{Known, New}
use Rattle.ncl_plans.specs.Smalls.{op_value, small_ins, small_value}

-- the bit of what it comes to
abbrev pub form_value : List Bool → List Bool → Form → Bool
form_value word nodes (Known signal) = signal_value word nodes signal
form_value word nodes (New small inverted) =
    cond inverted (not (small_value word nodes small)) (small_value word nodes small)

-- there is what it reads, where there are so many inputs and nodes, and a node of it reads no constant
abbrev pub IsFormOver : ℕ → ℕ → Form → Type 0
IsFormOver inputs count (Known signal) = IsSource inputs count signal.from
IsFormOver inputs count (New small inverted) =
    All (λ signal. IsSource inputs count signal.from) (small_ins small) × All (λ signal. is_constant signal.from ≡ false) (small_ins small)

-- an operation on three signals comes to this
pub record ComesTo (op : Op) (s t u : Signal) (form : Form) : Type 0 where
  pub value : (word nodes : List Bool) → form_value word nodes form ≡ op_value op (signal_value word nodes s) (signal_value word nodes t) (signal_value word nodes u)
  pub over : (inputs count : ℕ) → IsSource inputs count s.from → IsSource inputs count t.from → IsSource inputs count u.from → IsFormOver inputs count form

-- the signal that is always this bit
abbrev pub constant_signal : Bool → Signal
constant_signal bit = record { from = Const bit; inverted = false }

-- a signal where a bit is 1, and else 0
abbrev pub where_one : Bool → Signal → Signal
where_one bit signal = cond bit signal (constant_signal false)

-- a signal, turned where the bit says so
abbrev pub turned_by : Bool → Signal → Signal
turned_by turn signal = record { from = signal.from; inverted = cond turn (not signal.inverted) signal.inverted }

-- a small node of an operation over two signals, in either order
abbrev pub IsPairOf : Op → Signal → Signal → Small → Type 0
IsPairOf op s t small =
    (small ≡ record { op = op; first = s; second = t; third = s }) ⊎ (small ≡ record { op = op; first = t; second = s; third = t })
