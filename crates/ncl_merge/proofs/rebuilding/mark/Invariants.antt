use Rattle.ncl_merge.proofs.Terms.{false, is_driven, length, slice_index_or, take, ℕ, ◌<◌, ◌||◌, ◌≡◌}
use Rattle.ncl_merge.proofs.rebuilding.mark.Given as goal

-- the nets of the cells so far are marked
abbrev pub invariant-loop-cell : goal.invariant-loop-cell
invariant-loop-cell l = (net : ℕ) → net < length l.initial.marks → slice_index_or l.marks net false ≡ (slice_index_or l.initial.marks net false || is_driven net (take l.cell-index l.cells))
