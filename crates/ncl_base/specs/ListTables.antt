-- A list for each of some places, as items come to them.
use Rattle.std.specs.Prelude.{◌≡◌, ◌⊎◌, ℕ, ◌<◌, ◌++◌, List, [], ◌∷◌, Contains, length, set, slice_index_or}

-- the items at a place; none where it is no place
abbrev pub items_at : {X : Type 0} → List (List X) → ℕ → List X
items_at lists place = slice_index_or lists place []

-- an item comes to a place
abbrev pub put_into : {X : Type 0} → List (List X) → ℕ → X → List (List X)
put_into lists place item = set lists place (items_at lists place ++ item ∷ [])

-- numbers below a count come to the places, and none leaves
pub record Grows (count : ℕ) (old new : List (List ℕ)) : Type 0 where
  pub size : length new ≡ length old
  pub kept : (place k : ℕ) → Contains (items_at old place) k → Contains (items_at new place) k
  pub below : (place k : ℕ) → Contains (items_at new place) k → Contains (items_at old place) k ⊎ (k < count)
