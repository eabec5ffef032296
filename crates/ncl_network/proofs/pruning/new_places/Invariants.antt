use Rattle.ncl_network.proofs.Terms.{length, new_place, slice_index_or, ℕ, ◌<◌, ◌≡◌, ◌≤◌}
use Rattle.ncl_network.proofs.pruning.new_places.Given as goal

abbrev pub invariant-loop-mark : goal.invariant-loop-mark
invariant-loop-mark l =
    (length l.places.items ≡ l.mark-index) × (l.next ≡ new_place l.kept l.mark-index) × (l.next ≤ l.mark-index)
    × ((k : ℕ) → k < l.mark-index → slice_index_or l.places.items k 0 ≡ new_place l.kept k)
