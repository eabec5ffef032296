-- Which places a place leads to.
use Rattle.std.specs.Prelude.{◌≡◌, ℕ, ◌+◌, ◌⊎◌, Bool, true, false, not, List, length, All, Contains, count_by}
use Rattle.std.specs.List.{slice_index_or}
use Rattle.ncl_graph.specs.Graph.{successors, Leads}
use Rattle.ncl_graph.specs.declared.reach.Reach.{Reach}

-- whether a place was reached
abbrev pub was_reached : List Bool → ℕ → Bool
was_reached reached i = slice_index_or reached i false

-- the most turns that are left: one for each place that was not reached, and one for each that waits
abbrev pub turns : List Bool → List ℕ → ℕ
turns reached waiting = count_by not reached + length waiting

-- where a walk from a place stands: the places that were reached, and of them those that wait, whose successors
-- were not looked at
pub record IsWalk (g : List (List ℕ)) (start : ℕ) (reached : List Bool) (waiting : List ℕ) : Type 0 where
  pub sized : length reached ≡ length g
  -- the start leads to each place that was reached
  pub sound : (i : ℕ) → was_reached reached i ≡ true → Leads g start i
  -- the successors of the start, and of each place that was reached and doesn't wait, were reached
  pub first : All (λ i. was_reached reached i ≡ true) (successors g start)
  pub closed : (i : ℕ) → was_reached reached i ≡ true → Contains waiting i ⊎ All (λ j. was_reached reached j ≡ true) (successors g i)
  pub waits : All (λ i. was_reached reached i ≡ true) waiting

-- from some places that were reached and some that wait, the places of a list were reached as well: those of
-- them that are new wait too
pub record Reaches (list : List ℕ) (reached : List Bool) (waiting : List ℕ) (reached_after : List Bool) (waiting_after : List ℕ) : Type 0 where
  pub sized : length reached_after ≡ length reached
  pub all : All (λ i. was_reached reached_after i ≡ true) list
  pub kept : (i : ℕ) → was_reached reached i ≡ true → was_reached reached_after i ≡ true
  pub only : (i : ℕ) → was_reached reached_after i ≡ true → (was_reached reached i ≡ true) ⊎ Contains list i
  pub fresh : (i : ℕ) → was_reached reached_after i ≡ true → (was_reached reached i ≡ true) ⊎ Contains waiting_after i
  pub still : (i : ℕ) → Contains waiting i → Contains waiting_after i
  pub waits : All (λ i. was_reached reached i ≡ true) waiting → All (λ i. was_reached reached_after i ≡ true) waiting_after
  pub turns : turns reached_after waiting_after ≡ turns reached waiting

-- the walk reached the places of a list as well
abbrev pub ReachedAll : List ℕ → Reach → Reach → Type 0
ReachedAll list old new = Reaches list old.reached.items old.waiting.items new.reached.items new.waiting.items
