-- On which bits the nets of a stage can depend.
use Rattle.std.specs.Prelude.{◌≡◌, ℕ, Bool, true, false, List, Contains, slice_index_or, slice_get, Some}
use Rattle.ncl_netlist.specs.declared.ids.NetId.{NetId}
use Rattle.ncl_shape.specs.declared.rails.Rails.{Rails}
use Rattle.ncl_shape.specs.declared.stage.StageCell.{StageCell}
use Rattle.ncl_shape.specs.Stage.{StageData, out_of}

-- for each net, marks for bits
abbrev pub Marks : Type 0
Marks = ℕ → ℕ → Bool

-- a rail has the mark of its bit, and the output of a cell those of what the cell reads
pub record AreSupports (s : StageData) (marks : Marks) : Type 0 where
  pub rails : (bit : ℕ) (r : Rails) → slice_get s.inputs bit ≡ Some r → (marks r.zero.0 bit ≡ true) × (marks r.one.0 bit ≡ true)
  pub cells : (c : StageCell) → Contains s.cells c → (pin : NetId) → Contains c.ins.items pin → (bit : ℕ) → marks pin.0 bit ≡ true → marks (out_of c) bit ≡ true

-- two words agree on the marked bits
abbrev pub AgreeOn : (ℕ → Bool) → List Bool → List Bool → Type 0
AgreeOn marked v w = (bit : ℕ) → marked bit ≡ true → slice_index_or v bit false ≡ slice_index_or w bit false
