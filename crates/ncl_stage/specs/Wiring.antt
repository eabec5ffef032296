-- The nets of a stage by their places: the rails of the inputs come first, and then the outputs of the
-- cells.
use Rattle.std.specs.Prelude.{◌≡◌, ◌+◌, ◌<◌, ℕ, List, [], Contains, length, map, slice_index_or}
use Rattle.ncl_netlist.specs.declared.ids.NetId.{NetId}
use Rattle.ncl_shape.specs.declared.rails.Rails.{Rails}
use Rattle.ncl_shape.specs.declared.stage.StageCell.{StageCell}
use Rattle.ncl_shape.specs.Stage.{StageData, nets_of}
pub use Rattle.ncl_stage.specs.BitOrder.{place_in}
use Rattle.ncl_stage.specs.BitOrder.{IsOrderOf}
use Rattle.ncl_base.specs.ListTables.{items_at}

-- the nets in their order, and by places in it the inputs of each cell and the rails of each output, rail 0
-- first; and an order of the bits
pub record WiringData : Type 0 where
  pub nets : List ℕ
  pub pins : List (List ℕ)
  pub outputs : List (ℕ × ℕ)
  pub order : List ℕ

abbrev pub pin_places : List ℕ → StageCell → List ℕ
pin_places nets cell = map (λ (net : NetId). place_in nets net.0) cell.ins.items

abbrev pub rail_places : List ℕ → Rails → ℕ × ℕ
rail_places nets r = (place_in nets r.zero.0, place_in nets r.one.0)

-- the wiring of a stage, in any order of its bits
pub record IsWiring (s : StageData) (w : WiringData) : Type 0 where
  pub nets : w.nets ≡ nets_of s.inputs s.cells
  pub pins : w.pins ≡ map (pin_places w.nets) s.cells
  pub outputs : w.outputs ≡ map (rail_places w.nets) s.outputs
  pub order : IsOrderOf (length s.inputs) w.order

-- of each net the places of the cells that read it; so many nets stand before the outputs of the cells
pub record AreReaders (rails : ℕ) (pins : List (List ℕ)) (nets : ℕ) (readers : List (List ℕ)) : Type 0 where
  pub many : length readers ≡ nets
  pub each : (cell net : ℕ) → cell < length pins → Contains (slice_index_or pins cell []) net → Contains (items_at readers net) (rails + cell)
  pub within : (net place : ℕ) → Contains (items_at readers net) place → place < nets
