-- The reset net by net: which nets are high, by what drives them and by the banks that are reset to DATA.
use Rattle.std.specs.Prelude.{◌≡◌, ◌⊎◌, ℕ, true, false}
use Rattle.ncl_netlist.specs.declared.cell.Cell.{Cell}
use Rattle.ncl_netlist.specs.Netlist.{NetlistData}
use Rattle.ncl_cell_rules.specs.Origin.{IsCell, IsDataRegister, IsDataBank, AckOf, ComesFrom}
use Rattle.ncl_shape.specs.Nets.{Nets}
use Rattle.ncl_shape.specs.Pipeline.{PipelineData}

-- the net is the output of a register cell that is reset to 1
abbrev pub IsDataOutput : NetlistData → ℕ → Type 0
IsDataOutput n net = (c : Cell) × IsCell n c × IsDataRegister c × (c.out.0 ≡ net)

-- the net is the output of an acknowledge or completion cell of a bank that isn't reset to DATA
abbrev pub AsksForData : NetlistData → ℕ → Type 0
AsksForData n net = (bank : ℕ) × ComesFrom n net (AckOf bank) × (IsDataBank n bank → ⊥)

-- high are the sink's acknowledge, the outputs of the register cells that are reset to 1, and those of the acknowledge
-- and completion cells of the banks that aren't reset to DATA, and nothing else is; so the acknowledge and completion
-- cells of a bank that is reset to DATA are low
pub record IsReset (p : PipelineData) (v : Nets) : Type 0 where
  pub ki : v p.ki ≡ true
  pub data_outputs : (net : ℕ) → IsDataOutput p.netlist net → v net ≡ true
  pub asks : (net : ℕ) → AsksForData p.netlist net → v net ≡ true
  pub holds : (net bank : ℕ) → ComesFrom p.netlist net (AckOf bank) → IsDataBank p.netlist bank → v net ≡ false
  pub only : (net : ℕ) → v net ≡ true → (net ≡ p.ki) ⊎ (IsDataOutput p.netlist net ⊎ AsksForData p.netlist net)
