-- Bounds on times.
use Rattle.std.specs.Prelude.{◌≡◌, ℕ, ◌+◌, ◌*◌, ◌≤◌, Bool, List, length, Some}
use Rattle.ncl_shape.specs.declared.item.Item.{Item}
use Rattle.ncl_shape.specs.Pipeline.{PipelineData}
use Rattle.ncl_delay.specs.Delays.{DelaysData, delay_of}
use Rattle.ncl_sim.specs.TimedRun.{due_after, last_time}
use Rattle.ncl_delay.specs.declared.fired.Fired.{Fired}

-- no delay is greater
abbrev pub AreWithin : DelaysData → ℕ → Type 0
AreWithin d most = (item : Item) (rising : Bool) → delay_of d item rising ≤ most

-- the time is at most that many delays for each step, and what is due is due from now on, within one delay
pub record IsTimely (p : PipelineData) (d : DelaysData) (most : ℕ) (offered : List (List Bool)) (steps : List Fired) : Type 0 where
  pub last : last_time 0 steps ≤ length steps * most
  pub dues : (item : Item) (due : ℕ) → due_after p d offered steps item ≡ Some due → (last_time 0 steps ≤ due) × (due ≤ last_time 0 steps + most)
