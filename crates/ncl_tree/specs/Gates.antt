-- Gates that are numbered in the order in which they were added, and the nets that they drive.
use Rattle.std.specs.Prelude.{◌≡◌, ℕ, ◌+◌, List, length, slice_get, Some}
use Rattle.ncl_shape.specs.declared.stage.StageCell.{StageCell}

-- gates over nets that were there before: the number of the net of the first gate, and the gates
pub record GatesData : Type 0 where
  pub first : ℕ
  pub cells : List StageCell

-- the gate at each place has its place as its number, and drives the net that follows the one before
pub record AreNumbered (gates : GatesData) : Type 0 where
  pub cells : (k : ℕ) (c : StageCell) → slice_get gates.cells k ≡ Some c → c.cell.0 ≡ k
  pub nets : (k : ℕ) (c : StageCell) → slice_get gates.cells k ≡ Some c → c.out.0 ≡ gates.first + k

-- how many nets there are, which is the number of the net of the next gate
abbrev pub nets_so_far : GatesData → ℕ
nets_so_far gates = gates.first + length gates.cells
