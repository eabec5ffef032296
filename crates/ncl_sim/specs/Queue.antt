-- What waits, by the numbers of items: the table of dues, the looks that keep it, and what a run is between two steps.
use Rattle.std.specs.Prelude.{◌≡◌, ◌⊎◌, ℕ, ◌+◌, ◌<◌, ◌≤◌, Bool, true, false, not, ◌&&◌, if◌then◌else◌, min, List, [], ◌∷◌, length, Option, Some, None, slice_get, set}
use Rattle.ncl_shape.specs.Pipeline.{PipelineData}
use Rattle.ncl_machine.specs.State.{State}
use Rattle.ncl_machine.specs.Steps.{enabled}
use Rattle.ncl_delay.specs.Delays.{DelaysData, delay_of}
use Rattle.ncl_delay.specs.declared.fired.Fired.{Fired}
use Rattle.ncl_sim.specs.Numbers.{rises}
use Rattle.ncl_sim.specs.Candidates.{candidate, due_at, number_count}

-- an event, which is a due and a number, comes before another
abbrev pub IsBefore : ℕ × ℕ → ℕ × ℕ → Type 0
IsBefore e other = (e.0 < other.0) ⊎ ((e.0 ≡ other.0) × (e.1 ≤ other.1))

-- the number waits for that time, and no other waits for one that comes before
pub record IsFirst (waits : List (Option ℕ)) (e : ℕ × ℕ) : Type 0 where
  pub here : slice_get waits e.1 ≡ Some (Some e.0)
  pub first : (k due : ℕ) → slice_get waits k ≡ Some (Some due) → IsBefore e (due, k)

-- nothing waits
abbrev pub NoneWaits : List (Option ℕ) → Type 0
NoneWaits waits = (k due : ℕ) → slice_get waits k ≡ Some (Some due) → ⊥

-- each number waits for its candidate's due
pub record IsTracked (p : PipelineData) (d : DelaysData) (offered : List (List Bool)) (steps : List Fired) (waits : List (Option ℕ)) : Type 0 where
  pub count : length waits ≡ number_count p
  pub at : (k : ℕ) → k < number_count p → slice_get waits k ≡ Some (due_at p d offered steps k)

-- whether something waits at a place of the table
abbrev pub is_waiting : Option (Option ℕ) → Bool
is_waiting None = false
is_waiting (Some None) = false
is_waiting (Some (Some due)) = true

-- when the candidate of a number is due that becomes enabled now
abbrev pub due_now : PipelineData → DelaysData → State → ℕ → ℕ → ℕ
due_now p d s time k = time + delay_of d (candidate p s k) (rises p s.value (candidate p s k))

-- the table after a look at a number: it begins to wait where its candidate is enabled and doesn't wait
abbrev pub begins : PipelineData → State → List (Option ℕ) → ℕ → Bool
begins p s waits k = enabled p s (candidate p s k) && not (is_waiting (slice_get waits k))

abbrev pub look_at : PipelineData → DelaysData → State → ℕ → List (Option ℕ) → ℕ → List (Option ℕ)
look_at p d s time waits k = if begins p s waits k then set waits k (Some (due_now p d s time k)) else waits

-- the table after looks at some numbers
abbrev pub looks : PipelineData → DelaysData → State → ℕ → List (Option ℕ) → List ℕ → List (Option ℕ)
looks p d s time waits [] = waits
looks p d s time waits (k ∷ ks) = looks p d s time (look_at p d s time waits k) ks

-- a number was lost: it waits, and its candidate isn't enabled
abbrev pub loses : PipelineData → State → List (Option ℕ) → ℕ → Bool
loses p s waits k = not (enabled p s (candidate p s k)) && is_waiting (slice_get waits k)

-- the least of some numbers that pass a test, and of an earlier one
abbrev pub lower : Option ℕ → ℕ → Option ℕ
lower None k = Some k
lower (Some least) k = Some (min least k)

abbrev pub note : Bool → Option ℕ → ℕ → Option ℕ
note true least k = lower least k
note false least k = least

abbrev pub least_of : (ℕ → Bool) → Option ℕ → List ℕ → Option ℕ
least_of test least [] = least
least_of test least (k ∷ ks) = least_of test (note (test k) least k) ks
