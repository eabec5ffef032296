-- The one item of each number that can be enabled in a state, when it is due, and the look at it after a step.
use Rattle.std.specs.Prelude.{ℕ, ◌+◌, ◌-◌, nat_lt, Bool, true, false, if◌then◌else◌, List, length, Option, None}
use Rattle.ncl_shape.specs.declared.item.Item.{Item}
use Rattle.ncl_shape.specs.declared.item.Item.TheVariants.{Cell as Fire, Raise, Lower, Take, Ready}
use Rattle.ncl_shape.specs.Pipeline.{PipelineData}
use Rattle.ncl_machine.specs.State.{State}
use Rattle.ncl_machine.specs.Steps.{enabled}
use Rattle.ncl_delay.specs.Delays.{DelaysData}
use Rattle.ncl_sim.specs.TimedRun.{due_after, due_next, state_after}
use Rattle.ncl_sim.specs.Touch.{IsUntouched}
use Rattle.ncl_delay.specs.declared.fired.Fired.{Fired}

abbrev pub bit_candidate : Bool → ℕ → Item
bit_candidate true bit = Lower bit
bit_candidate false bit = Raise bit

abbrev pub sink_candidate : Bool → Item
sink_candidate true = Take
sink_candidate false = Ready

-- the item of a number: a bit's by whether the source lowers, the sink's by its acknowledge
abbrev pub candidate : PipelineData → State → ℕ → Item
candidate p s k =
    if nat_lt k (length p.netlist.cells) then Fire (record { 0 = k })
    else if nat_lt k (length p.netlist.cells + length p.inputs) then bit_candidate s.falling (k - length p.netlist.cells)
    else sink_candidate (s.value p.ki)

-- how many numbers there are
abbrev pub number_count : PipelineData → ℕ
number_count p = length p.netlist.cells + length p.inputs + 1

-- when the candidate of a number is due
abbrev pub due_at : PipelineData → DelaysData → List (List Bool) → List Fired → ℕ → Option ℕ
due_at p d offered steps k = due_after p d offered steps (candidate p (state_after p offered steps) k)

-- a change of the net touches nothing of this number
abbrev pub IsFree : PipelineData → ℕ → ℕ → Type 0
IsFree p net k = (s : State) → IsUntouched p net (candidate p s k)

-- what waits once the step's own number was taken
abbrev pub popped : Bool → Option ℕ → Option ℕ
popped true waits = None
popped false waits = waits

-- the look at an item after a step at a time: where it is enabled it waits as before, or from now on
abbrev pub look : PipelineData → DelaysData → State → Item → ℕ → Option ℕ → Option ℕ
look p d s item time waits = if enabled p s item then due_next p d s item false time waits else None
