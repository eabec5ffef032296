-- The count of a variant, as a number that computes.
use Rattle.ncl_stage.proofs.Terms.{Base, StageData, Variant, bead_count-computes, beads_of, count, distinct_count, flat_map, length, tables_of, ℕ, ◌++◌, ◌≡◌}

abbrev pub counted : StageData → Variant → ℕ
counted s variant = distinct_count (flat_map (beads_of (length s.inputs)) (tables_of s Base ++ tables_of s variant))

pub count-computes : (s : StageData) (variant : Variant) → count s variant ≡ counted s variant
count-computes s variant = bead_count-computes (length s.inputs) (tables_of s Base ++ tables_of s variant)
