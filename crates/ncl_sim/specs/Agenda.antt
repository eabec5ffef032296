-- The agenda of a run: a table of dues by number, and the same as the events of a queue.
use Rattle.std.specs.Prelude.{ℕ, ◌+◌, List, [], ◌∷◌, map, Option, Some, None}
use Rattle.std.specs.List.Sorted.{IsPermutation}
use Rattle.std.specs.declared.cmp.Reverse.{Reverse}

-- the events of what waits, from a number on: the due and the number
abbrev pub events : ℕ → List (Option ℕ) → List (ℕ × ℕ)
events k [] = []
events k (None ∷ waits) = events (k + 1) waits
events k (Some due ∷ waits) = (due, k) ∷ events (k + 1) waits

-- the queue has the events of what waits
pub record IsQueueOf (waits : List (Option ℕ)) (queue : List (Reverse (ℕ × ℕ))) : Type 0 where
  pub events : IsPermutation (events 0 waits) (map (λ (e : Reverse (ℕ × ℕ)). e.0) queue)
