-- A netlist in which gates between banks read other nets, or are gone, and all else is as it was but for the numbers of nets
-- and cells.
use Rattle.std.specs.Prelude.{◌≡◌, ◌<◌, ◌⊎◌, ℕ, not, List, Contains, length, map, filter}
use Rattle.ncl_netlist.specs.declared.ids.NetId.{NetId}
use Rattle.ncl_netlist.specs.declared.cell.Cell.{Cell}
use Rattle.ncl_netlist.specs.Netlist.{NetlistData, IsNetlist}
use Rattle.ncl_cell_rules.specs.Origin.{IsCell, CellAt, IsGate, ReadsNet, RailOf, ComesFrom}
use Rattle.ncl_cell_rules.specs.CellTests.{is_gate}
use Rattle.ncl_gates.specs.declared.kind.Kind.{Kind}
use Rattle.ncl_gates.specs.declared.cell_kind.CellKind.TheVariants.{Gate}
use Rattle.ncl_shape.specs.declared.bank.Bank.{Bank}
use Rattle.ncl_shape.specs.declared.bank.Bit.{Bit}
use Rattle.ncl_shape.specs.declared.stage.StageCell.{StageCell}
use Rattle.ncl_shape.specs.Stage.{StageData, IsStage}
use Rattle.ncl_shape.specs.Pipeline.{PipelineData}
use Rattle.ncl_shape.specs.Renamed.{renamed_net, renamed_rails}

-- the cell, where nets have these numbers
abbrev pub moved : (ℕ → ℕ) → Cell → Cell
moved to c = record {
  kind = c.kind;
  name = c.name;
  ins = record { items = map (renamed_net to) c.ins.items };
  out = renamed_net to c.out;
}

-- a gate between a bank and the next
abbrev pub IsRailGate : NetlistData → Cell → Type 0
IsRailGate n c = IsGate c × ((bank : ℕ) × ComesFrom n c.out.0 (RailOf bank))

-- a gate that drives what a rail gate of n drives, from nets that come from the rails of the same bank
pub record IsThinGate (n : NetlistData) (to from : ℕ → ℕ) (d : Cell) : Type 0 where
  pub old : Cell
  pub bank : ℕ
  pub in_n : IsCell n old
  pub old_gate : IsGate old
  pub comes : ComesFrom n old.out.0 (RailOf bank)
  pub gate : IsGate d
  pub out : d.out ≡ renamed_net to old.out
  pub kept : from (to old.out.0) ≡ old.out.0
  pub pins : (z : NetId) → Contains d.ins.items z → (x : ℕ) × (z.0 ≡ to x) × (from (to x) ≡ x) × ComesFrom n x (RailOf bank)

-- the cell at this place stands in m
pub record IsStood (m : NetlistData) (to from at : ℕ → ℕ) (k : ℕ) (c : Cell) : Type 0 where
  pub stands : CellAt m (at k) (moved to c)
  pub out : from (to c.out.0) ≡ c.out.0
  pub pins : (x : NetId) → Contains c.ins.items x → from (to x.0) ≡ x.0

-- a cell of n that is no rail gate and has become this one
pub record IsOld (n : NetlistData) (to at : ℕ → ℕ) (i : ℕ) (d : Cell) : Type 0 where
  pub place : ℕ
  pub cell : Cell
  pub in_n : CellAt n place cell
  pub no_rail : IsRailGate n cell → ⊥
  pub is_at : at place ≡ i
  pub is : d ≡ moved to cell

pub record IsThinned (n m : NetlistData) : Type 0 where
  pub to : ℕ → ℕ
  pub from : ℕ → ℕ
  pub at : ℕ → ℕ
  pub is_n : IsNetlist n
  pub is_m : IsNetlist m
  pub ports : m.ports ≡ n.ports
  -- ports are the first nets in both
  pub port_to : (net : ℕ) → net < length n.ports → to net ≡ net
  pub port_from : (net : ℕ) → net < length n.ports → from net ≡ net
  -- all cells but rail gates stand, in their order
  pub stood : (k : ℕ) (c : Cell) → CellAt n k c → (IsRailGate n c → ⊥) → IsStood m to from at k c
  pub rises : (j k : ℕ) (c d : Cell) → CellAt n j c → CellAt n k d → (IsRailGate n c → ⊥) → (IsRailGate n d → ⊥) → j < k → at j < at k
  -- so the cells that are no gates are the same, moved
  pub plain : filter (λ (c : Cell). not (is_gate c.kind)) m.cells ≡ map (moved to) (filter (λ (c : Cell). not (is_gate c.kind)) n.cells)
  -- each other cell is a rail gate
  pub each : (i : ℕ) (d : Cell) → CellAt m i d → IsOld n to at i d ⊎ IsThinGate n to from d
  -- nets have ranks that rise along each gate
  pub rank : ℕ → ℕ
  pub ranks : (c d : Cell) → IsCell m c → IsGate c → IsCell m d → ReadsNet c d.out.0 → rank d.out.0 < rank c.out.0

-- the stage of m that a stage of n has become: its rails, and gates that drive what its gates drove
pub record IsThinStage (m : NetlistData) (to from : ℕ → ℕ) (s t : StageData) : Type 0 where
  pub is_stage : IsStage t
  pub number : t.number ≡ s.number
  pub inputs : t.inputs ≡ map (renamed_rails to) s.inputs
  pub outputs : t.outputs ≡ map (renamed_rails to) s.outputs
  pub gates : (g : StageCell) → Contains t.cells g → (d : Cell) × CellAt m g.cell.0 d × (d.kind ≡ Gate g.kind) × (d.ins.items ≡ g.ins.items) × (d.out ≡ g.out) × ((old : StageCell) × Contains s.cells old × (g.out ≡ renamed_net to old.out) × (from (to old.out.0) ≡ old.out.0))
  pub every : (k : ℕ) (kind : Kind) (d : Cell) → CellAt m k d → d.kind ≡ Gate kind → (old : StageCell) → Contains s.cells old → d.out.0 ≡ to old.out.0 → (g : StageCell) × Contains t.cells g × (g.cell.0 ≡ k)

-- a bit and a bank, where nets and cells have these numbers
abbrev pub moved_bit : (ℕ → ℕ) → Bit → Bit
moved_bit at bit = record { rail0 = record { 0 = at bit.rail0.0 }; rail1 = record { 0 = at bit.rail1.0 }; ack = record { 0 = at bit.ack.0 }; start = bit.start }

abbrev pub moved_bank : (ℕ → ℕ) → (ℕ → ℕ) → Bank → Bank
moved_bank to at b = record { bits = map (moved_bit at) b.bits; request = renamed_net to b.request; root = renamed_net to b.root }

-- the pipeline, with these stages
abbrev pub moved_pipeline : NetlistData → (ℕ → ℕ) → (ℕ → ℕ) → PipelineData → List StageData → PipelineData
moved_pipeline m to at p stages = record {
  netlist = m;
  banks = map (moved_bank to at) p.banks;
  stages = stages;
  inputs = map (renamed_rails to) p.inputs;
  outputs = map (renamed_rails to) p.outputs;
  ki = to p.ki;
  ko = to p.ko;
}
