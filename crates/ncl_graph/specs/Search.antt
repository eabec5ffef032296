-- Where a depth-first search stands.
use Rattle.std.specs.Prelude.{◌≡◌, ◌≢◌, ℕ, ◌+◌, ◌*◌, ◌<◌, Bool, true, false, List, [], ◌∷◌, ◌++◌, length, All, AllPairs, Contains, count_by}
use Rattle.std.specs.List.{slice_index_or}
use Rattle.ncl_graph.specs.Graph.{successors, Leads, StandsAfter}
use Rattle.ncl_graph.specs.declared.mark.Mark.{Mark}
use Rattle.ncl_graph.specs.declared.mark.Mark.TheVariants.{New, Open, Done}
use Rattle.ncl_graph.specs.declared.search.Search.{Search}

-- the mark of a place
abbrev pub mark_at : List Mark → ℕ → Mark
mark_at marks i = slice_index_or marks i New

-- the place was not met yet
abbrev pub is_new : Mark → Bool
is_new New = true
is_new Open = false
is_new Done = false

-- how many places were not met yet
abbrev pub new_count : List Mark → ℕ
new_count marks = count_by is_new marks

-- no place that was met is new again
abbrev pub StaysMet : List Mark → List Mark → Type 0
StaysMet old new = (i : ℕ) → mark_at old i ≢ New → mark_at new i ≢ New

-- where a search stands: the marks of the places, how many successors of each place are passed by, the path
-- to the place at work, and the order so far
pub record IsSearch (g : List (List ℕ)) (marks : List Mark) (passed path order : List ℕ) : Type 0 where
  -- each place has a mark and a number of successors that are passed by
  pub marked : length marks ≡ length g
  pub counted : length passed ≡ length g
  -- the places of the order are those that are done, each once and after those that it leads to
  pub done : All (λ i. mark_at marks i ≡ Done) order
  pub ordered : (i : ℕ) → mark_at marks i ≡ Done → Contains order i
  pub once : AllPairs (λ i j. i ≢ j) order
  pub after : StandsAfter g order
  -- the places of the path are those that are open, each once, and each leads to those that follow
  pub open_path : All (λ i. mark_at marks i ≡ Open) path
  pub on_path : (i : ℕ) → mark_at marks i ≡ Open → Contains path i
  pub leads : AllPairs (λ i j. (i ≢ j) × Leads g i j) path
  -- successors are passed by once they are done
  pub passed_done : (i k : ℕ) → k < slice_index_or passed i 0 → mark_at marks (slice_index_or (successors g i) k 0) ≡ Done

-- the search stands so
abbrev pub Stands : List (List ℕ) → Search → Type 0
Stands g s = IsSearch g s.marks.items s.passed.items s.path.items s.order.items

-- the search stands so once a place that was taken from the end of its path is put back there
abbrev pub StandsAt : List (List ℕ) → Search → ℕ → Type 0
StandsAt g s place = IsSearch g s.marks.items s.passed.items (s.path.items ++ place ∷ []) s.order.items

-- the most turns that are left: each place that is new opens and closes, and each place of the path closes
abbrev pub work : Search → ℕ
work s = 2 * new_count s.marks.items + length s.path.items
