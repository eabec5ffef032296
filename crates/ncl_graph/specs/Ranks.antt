-- Ranks of places.
use Rattle.std.specs.Prelude.{◌≡◌, ℕ, ◌+◌, ◌*◌, ◌<◌, ◌≤◌, List, length, All, Contains, count_by, is_none}
use Rattle.std.specs.List.{slice_index_or}
use Rattle.ncl_graph.specs.Graph.{successors}
use Rattle.ncl_graph.specs.declared.components.Components.{Components}

-- the rank of a place
abbrev pub rank_of : List ℕ → ℕ → ℕ
rank_of ranks i = slice_index_or ranks i 0

-- along each arc the rank does not rise
abbrev pub NeverRises : List (List ℕ) → List ℕ → Type 0
NeverRises g ranks = (i j : ℕ) → Contains (successors g i) j → rank_of ranks j ≤ rank_of ranks i

-- each place has its part in a search for components, and the search names only places
pub record IsWhole (s : Components) : Type 0 where
  pub lows : length s.lows.items ≡ length s.numbers.items
  pub ranks : length s.ranks.items ≡ length s.numbers.items
  pub passed : length s.passed.items ≡ length s.numbers.items
  pub path : All (λ i. i < length s.numbers.items) s.path.items
  pub unranked : All (λ i. i < length s.numbers.items) s.unranked.items

-- the most turns that are left: each place that was not met is met and left, and each place of the path is left
abbrev pub work : Components → ℕ
work s = 2 * count_by is_none s.numbers.items + length s.path.items
