-- Directed graphs of dependencies: paths, cycles and orders. A graph is the list of each place's successors,
-- and its places are the numbers below the length of that list.
use Rattle.std.specs.Prelude.{◌≡◌, ◌≢◌, ℕ, ◌^◌, ◌<◌, List, [], ◌∷◌, ◌++◌, length, All, AllPairs, Contains}
use Rattle.std.specs.List.{slice_index_or}

-- the places that a place leads to by one arc; what is no place leads nowhere
abbrev pub successors : List (List ℕ) → ℕ → List ℕ
successors g i = slice_index_or g i []

-- every successor is a place, and there are fewer than 2^32 places
pub record IsGraph (g : List (List ℕ)) : Type 0 where
  pub few : length g < 2 ^ 32
  pub closed : All (All (λ j. j < length g)) g

-- a place leads to another by one or more arcs
pub data Leads (g : List (List ℕ)) : ℕ → ℕ → Type 0 where
  arc : {i j : ℕ} → Contains (successors g i) j → Leads g i j
  further : {i j k : ℕ} → Contains (successors g i) j → Leads g j k → Leads g i k

-- a place lies on a cycle: it leads back to itself
abbrev pub IsOnCycle : List (List ℕ) → ℕ → Type 0
IsOnCycle g i = Leads g i i

-- each place of a list stands after those that it leads to
abbrev pub StandsAfter : List (List ℕ) → List ℕ → Type 0
StandsAfter g order =
    (before : List ℕ) (i : ℕ) (rest : List ℕ) → order ≡ before ++ i ∷ rest → (j : ℕ) → Contains (successors g i) j → Contains before j

-- each place stands once, after those that it leads to (a topological order of the arcs turned round:
-- Knuth, The Art of Computer Programming 1, 2.2.3)
pub record IsOrder (g : List (List ℕ)) (order : List ℕ) : Type 0 where
  pub as_many : length order ≡ length g
  pub places : All (λ i. i < length g) order
  pub every : (i : ℕ) → i < length g → Contains order i
  pub once : AllPairs (λ i j. i ≢ j) order
  pub after : StandsAfter g order
