-- A run under way, and the table of what a step can touch.
use Rattle.std.specs.Prelude.{◌≡◌, ℕ, ◌+◌, ◌<◌, Bool, List, ◌∷◌, ◌++◌, map, length, Contains, Option, None, Some, set}
use Rattle.ncl_base.specs.ListTables.{items_at}
use Rattle.ncl_netlist.specs.declared.cell.Cell.{Cell}
use Rattle.ncl_netlist.specs.declared.ids.NetId.{NetId}
use Rattle.ncl_cell_rules.specs.Origin.{CellAt}
use Rattle.ncl_shape.specs.Pipeline.{PipelineData}
use Rattle.ncl_shape.specs.Stage.{rail_nets}
use Rattle.ncl_machine.specs.Run.{IsRun}
use Rattle.ncl_machine.specs.Held.{IsFor, meaning}
use Rattle.ncl_delay.specs.Delays.{DelaysData}
use Rattle.ncl_delay.specs.declared.fired.Fired.{Fired}
use Rattle.ncl_sim.specs.TimedRun.{Ends, IsNext, LosesNone, TraceData, items_in, state_after, takes_in}
use Rattle.ncl_sim.specs.Candidates.{candidate, number_count}
use Rattle.ncl_sim.specs.Queue.{IsFirst, IsTracked}
use Rattle.ncl_sim.specs.declared.run.Run.{Run}
use Rattle.ncl_sim.specs.declared.trace.End.{End}
use Rattle.ncl_sim.specs.declared.trace.End.TheVariants.{Hazard}
use Rattle.ncl_sim.specs.declared.trace.Taken.{Taken}

-- the steps begin a timed run: each is the next, and no step before the last ends it
pub record GoesOn (p : PipelineData) (d : DelaysData) (offered : List (List Bool)) (steps : List Fired) : Type 0 where
  pub run : IsRun p offered (items_in steps)
  pub next : (before rest : List Fired) (f : Fired) → steps ≡ before ++ f ∷ rest → IsNext p d offered before f
  pub goes_on : (before rest : List Fired) (f : Fired) (end : End) → steps ≡ before ++ f ∷ rest → Ends p offered before end → ⊥

-- a run under way: its steps begin a timed run and lost nothing, its state is where they lead, and its agenda
-- has what is due
pub record IsUnderWay (p : PipelineData) (d : DelaysData) (r : Run) : Type 0 where
  pub made : IsFor p r.state
  pub state : meaning r.state ≡ state_after p r.state.offered r.steps.items
  pub goes_on : GoesOn p d r.state.offered r.steps.items
  pub none_lost : LosesNone p r.state.offered r.steps.items
  pub waits : IsTracked p d r.state.offered r.steps.items r.agenda

-- what is due first was taken out of its agenda
pub record IsPopped (p : PipelineData) (d : DelaysData) (r : Run) (time number : ℕ) : Type 0 where
  pub waits : List (Option ℕ)
  pub under_way : IsUnderWay p d (record r { agenda = waits })
  pub first : IsFirst waits (time, number)
  pub agenda : r.agenda ≡ set waits number None

-- the run has ended
pub record IsStopped (p : PipelineData) (d : DelaysData) (r : Run) (end : End) : Type 0 where
  pub state : meaning r.state ≡ state_after p r.state.offered r.steps.items
  pub goes_on : GoesOn p d r.state.offered r.steps.items
  pub ends : Ends p r.state.offered r.steps.items end

-- a trace tells the steps of a run that ended so, and what was delivered, each pair with the time of its step
pub record Tells (r : Run) (last : End) (t : TraceData) : Type 0 where
  pub steps : t.steps ≡ r.steps.items
  pub times : map (λ (x : Taken). x.time) t.delivered ≡ map (λ (f : Fired). f.time) (takes_in r.steps.items)
  pub pairs : map (λ (x : Taken). x.pair) t.delivered ≡ r.state.delivered
  pub end : t.end ≡ last

-- after a turn at a time the run is under way, or it has ended since a number was lost
abbrev pub Turned : PipelineData → DelaysData → Run → ℕ → Option ℕ → Type 0
Turned p d r time None = IsUnderWay p d r
Turned p d r time (Some k) = IsStopped p d r (Hazard (candidate p (meaning r.state) k) time) × (k < number_count p) × IsFor p r.state

-- a table of the numbers that a change of each net can touch: the cells that read it; the bits where it is `ko`;
-- the sink where it is a rail of an output
pub record HasTouched (p : PipelineData) (table : List (List ℕ)) : Type 0 where
  pub size : length table ≡ length p.netlist.nets
  pub below : (net k : ℕ) → Contains (items_at table net) k → k < number_count p
  pub cells : (k : ℕ) (c : Cell) → CellAt p.netlist k c → (x : NetId) → Contains c.ins.items x → Contains (items_at table x.0) k
  pub bits : (bit : ℕ) → bit < length p.inputs → Contains (items_at table p.ko) (length p.netlist.cells + bit)
  pub sink : (net : ℕ) → Contains (rail_nets p.outputs) net → Contains (items_at table net) (length p.netlist.cells + length p.inputs)
