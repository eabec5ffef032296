-- The dump of a run: the values of the nets at reset, and the changes that its steps make.
use Rattle.std.specs.Prelude.{◌≡◌, ℕ, ◌<◌, nat_le, Bool, List, [], ◌∷◌, ◌++◌, map, filter, length, Option, Some, None}
use Rattle.std.specs.List.{range_with_len}
use Rattle.ncl_shape.specs.Pipeline.{PipelineData}
use Rattle.ncl_machine.specs.OneChange.{net_of_step}
use Rattle.ncl_machine.specs.State.{State, reset}
use Rattle.ncl_machine.specs.Steps.{step}
use Rattle.ncl_delay.specs.Delays.{DelaysData}
use Rattle.ncl_delay.specs.declared.fired.Fired.{Fired}
use Rattle.ncl_sim.specs.TimedRun.{IsTimedRun, TraceData, state_after}
use Rattle.ncl_vcd.specs.Codes.{identifier_code}
use Rattle.ncl_vcd.specs.Dump.{ValueChange, dump_text}
use Rattle.ncl_vcd.specs.Level.{level}

-- the change of the net that a step changes: its value in the state after the step
abbrev pub change_by : Fired → State → Option ℕ → List ValueChange
change_by f after None = []
change_by f after (Some net) = record { time = f.time; net = net; value = after.value net } ∷ []

-- the changes that steps make from a state on
abbrev pub changes_of : PipelineData → State → List Fired → List ValueChange
changes_of p s [] = []
changes_of p s (f ∷ steps) = change_by f (step p s f.item) (net_of_step p s f.item) ++ changes_of p (step p s f.item) steps

-- the values of all nets, in net order
abbrev pub values_in : PipelineData → State → List Bool
values_in p s = map s.value (range_with_len 0 (length p.netlist.nets))

-- the dump of some steps from reset, with some words offered
abbrev pub dump_of : PipelineData → List (List Bool) → List Fired → List ℕ
dump_of p offered steps = dump_text p.netlist.name p.netlist.nets (values_in p (reset p offered)) (changes_of p (reset p offered) steps)

-- the steps of a time at most this
abbrev pub until_time : ℕ → List Fired → List Fired
until_time time steps = filter (λ (f : Fired). nat_le f.time time) steps

-- at each time, a text tells of each net its value in the state after the steps up to then
abbrev pub TellsEachLevel : PipelineData → List (List Bool) → List Fired → List ℕ → Type 0
TellsEachLevel p offered steps text =
    (net time : ℕ) → net < length p.netlist.nets
    → level text (identifier_code net) time ≡ Some ((state_after p offered (until_time time steps)).value net)

-- the steps are those of the timed run at some delays, or the first of them
pub record BeginsTimedRun (p : PipelineData) (offered : List (List Bool)) (steps : List Fired) : Type 0 where
  pub delays : DelaysData
  pub trace : TraceData
  pub run : IsTimedRun p delays offered trace
  pub rest : List Fired
  pub front : trace.steps ≡ steps ++ rest
