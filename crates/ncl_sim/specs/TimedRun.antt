-- The timed run.
use Rattle.std.specs.Prelude.{◌≡◌, ◌≢◌, ◌⊎◌, ℕ, ◌+◌, ◌*◌, ◌<◌, ◌≤◌, ◌==◌, Bool, true, false, List, [], ◌∷◌, ◌++◌, map, filter, length, Option, Some, None, slice_get, if◌then◌else◌}
use Rattle.ncl_shape.specs.declared.item.Item.{Item}
use Rattle.ncl_shape.specs.declared.item.Item.TheVariants.{Take}
use Rattle.ncl_shape.specs.Pipeline.{PipelineData}
use Rattle.ncl_shape.specs.Held.{data_banks}
use Rattle.ncl_machine.specs.State.{State, reset}
use Rattle.ncl_machine.specs.Steps.{enabled, step}
use Rattle.ncl_machine.specs.Run.{IsRun, IsQuiet, after}
use Rattle.ncl_machine.specs.DelayInsensitive.{Carries, due as all_due}
use Rattle.ncl_delay.specs.Delays.{DelaysData, delay_of}
use Rattle.ncl_sim.specs.Numbers.{item_number, rises}
use Rattle.ncl_delay.specs.declared.fired.Fired.{Fired}
use Rattle.ncl_sim.specs.declared.trace.Taken.{Taken}
use Rattle.ncl_sim.specs.declared.trace.End.{End}
use Rattle.ncl_sim.specs.declared.trace.End.TheVariants.{Quiet, Hazard, Over}

abbrev pub items_in : List Fired → List Item
items_in steps = map (λ (f : Fired). f.item) steps

-- the state after some steps from reset, and the time of the last of them
abbrev pub state_after : PipelineData → List (List Bool) → List Fired → State
state_after p offered steps = after p (reset p offered) (items_in steps)

abbrev pub last_time : ℕ → List Fired → ℕ
last_time time [] = time
last_time time (f ∷ steps) = last_time f.time steps

-- when an item that has become enabled at a time is due
abbrev pub due_from : PipelineData → DelaysData → State → Item → ℕ → Option ℕ
due_from p d s item time = Some (time + delay_of d item (rises p s.value item))

-- when an item is due after a step at a time: as before where it was enabled before the step too, and didn't make it
abbrev pub due_next : PipelineData → DelaysData → State → Item → Bool → ℕ → Option ℕ → Option ℕ
due_next p d s item true time before = due_from p d s item time
due_next p d s item false time None = due_from p d s item time
due_next p d s item false time (Some due) = Some due

abbrev pub due_step : PipelineData → DelaysData → State → Fired → Item → Option ℕ → Option ℕ
due_step p d s f item before =
    if enabled p s item then due_next p d s item (item_number p f.item == item_number p item) f.time before else None

abbrev pub due_along : PipelineData → DelaysData → Item → State → Option ℕ → List Fired → Option ℕ
due_along p d item s before [] = before
due_along p d item s before (f ∷ steps) =
    due_along p d item (step p s f.item) (due_step p d (step p s f.item) f item before) steps

-- when an item is due after some steps from reset: its delay after the moment at which it was enabled and since
-- when it has stayed so; never where it isn't enabled
abbrev pub due_after : PipelineData → DelaysData → List (List Bool) → List Fired → Item → Option ℕ
due_after p d offered steps item =
    due_along p d item (reset p offered) (if enabled p (reset p offered) item then due_from p d (reset p offered) item 0 else None) steps

-- the entry comes before an item that is due at a time: by the time, and of one time by the number
abbrev pub ComesFirst : PipelineData → Fired → ℕ → Item → Type 0
ComesFirst p f due other = (f.time < due) ⊎ ((f.time ≡ due) × (item_number p f.item ≤ item_number p other))

-- the entry may stand after these steps
pub record IsNext (p : PipelineData) (d : DelaysData) (offered : List (List Bool)) (before : List Fired) (f : Fired) : Type 0 where
  pub due : due_after p d offered before f.item ≡ Some f.time
  pub first : (other : Item) (due : ℕ) → due_after p d offered before other ≡ Some due → ComesFirst p f due other

-- an item that was enabled before the last step, didn't make it, and isn't enabled after it
pub record IsLost (p : PipelineData) (offered : List (List Bool)) (steps : List Fired) (item : Item) : Type 0 where
  pub before : List Fired
  pub last : Fired
  pub split : steps ≡ before ++ last ∷ []
  pub other : item_number p last.item ≢ item_number p item
  pub was : enabled p (state_after p offered before) item ≡ true
  pub gone : enabled p (state_after p offered steps) item ≡ false

abbrev pub LosesNone : PipelineData → List (List Bool) → List Fired → Type 0
LosesNone p offered steps = (item : Item) → IsLost p offered steps item → ⊥

-- how many words are due: those that banks hold at reset, one for each that is reset to DATA, and those offered
abbrev pub words_due : PipelineData → List (List Bool) → ℕ
words_due p offered = data_banks p.banks + length offered

-- the most steps of a run: two of each net for each word that is due
abbrev pub most_steps : PipelineData → List (List Bool) → ℕ
most_steps p offered = 2 * words_due p offered * length p.netlist.nets

-- a run ends after these steps
pub data Ends (p : PipelineData) (offered : List (List Bool)) (steps : List Fired) : End → Type 0 where
  lost : (item : Item) → IsLost p offered steps item → ((other : Item) → IsLost p offered steps other → item_number p item ≤ item_number p other) → Ends p offered steps (Hazard item (last_time 0 steps))
  quiet : LosesNone p offered steps → IsQuiet p (state_after p offered steps) → Ends p offered steps Quiet
  over : LosesNone p offered steps → length steps ≡ most_steps p offered → (item : Item) → enabled p (state_after p offered steps) item ≡ true → Ends p offered steps Over

pub record TraceData : Type 0 where
  pub steps : List Fired
  pub delivered : List Taken
  pub end : End

abbrev pub is_take : Item → Bool
is_take Take = true
is_take other = false

-- the steps of the sink's taking
abbrev pub takes_in : List Fired → List Fired
takes_in steps = filter (λ (f : Fired). is_take f.item) steps

pub record IsTimedRun (p : PipelineData) (d : DelaysData) (offered : List (List Bool)) (t : TraceData) : Type 0 where
  pub run : IsRun p offered (items_in t.steps)
  pub next : (before rest : List Fired) (f : Fired) → t.steps ≡ before ++ f ∷ rest → IsNext p d offered before f
  pub goes_on : (before rest : List Fired) (f : Fired) (end : End) → t.steps ≡ before ++ f ∷ rest → Ends p offered before end → ⊥
  pub ends : Ends p offered t.steps t.end
  pub times : map (λ (x : Taken). x.time) t.delivered ≡ map (λ (f : Fired). f.time) (takes_in t.steps)
  pub pairs : map (λ (x : Taken). x.pair) t.delivered ≡ (state_after p offered t.steps).delivered

-- every word that is due is delivered, in order and in dual-rail form
pub record DeliversAll (p : PipelineData) (offered : List (List Bool)) (t : TraceData) : Type 0 where
  pub as_many : length t.delivered ≡ words_due p offered
  pub each : (k : ℕ) (taken : Taken) → slice_get t.delivered k ≡ Some taken → (word : List Bool) × (slice_get (all_due p offered) k ≡ Some word) × Carries word taken.pair
