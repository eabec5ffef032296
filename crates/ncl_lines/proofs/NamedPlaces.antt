-- Verdicts and faults of shape name nets and cells of the netlist.
use Rattle.std.proofs.Common.{ℕ, ◌<◌, ◌≤◌, ◌⊎◌, inl, inr, length, arith}
use Rattle.std.proofs.lemmas.Bool.{cases_lt}
use Rattle.std.proofs.lemmas.Option.{slice_get_within}
use Rattle.ncl_netlist.specs.declared.cell.Cell.{Cell}
use Rattle.ncl_netlist.specs.Netlist.{NetlistData, IsNetlist}
use Rattle.ncl_netlist.proofs.NetlistLaws.{ports-le-nets}
use Rattle.ncl_cell_rules.specs.declared.fault.CellFault.TheVariants.{UnusedPort, Cycle, Unpaired, Mixed, Loose, Memory as CellMemory}
use Rattle.ncl_shape.specs.declared.fault.ShapeFault.{ShapeFault}
use Rattle.ncl_shape.specs.declared.fault.ShapeFault.TheVariants.{CellRule, NoChain, TooWide, TooLong, Memory}
use Rattle.ncl_cell_rules.specs.Rules.{IsOffCycles, IsPaired, IsUnmixed, IsTied}
use Rattle.ncl_cell_rules.specs.Free.{AtCell, FailsFirst}
use Rattle.ncl_shape.specs.Pipeline.{PipelineData}
use Rattle.ncl_shape.specs.Shape.{Shape, IsShapeFault}
use Rattle.ncl_verdict.specs.declared.verdict.Verdict.{Verdict}
use Rattle.ncl_verdict.specs.declared.verdict.Verdict.TheVariants.{Accepted, BothRails, NoRail, Incomplete, Orphan, Limit}
use Rattle.ncl_verdict.specs.Judgement.{judgement}
use Rattle.ncl_verdict.proofs.NamedCell.{NamesBelow, names_of_pipeline}
use Rattle.ncl_lines.specs.ShapeText.{NamesPlaceOf}
use Rattle.ncl_lines.specs.VerdictText.{NamesCellOf}

-- a verdict that names no cell but the first so many names cells of the netlist
pub names_below : (n : NetlistData) (v : Verdict) → NamesBelow (length n.cells) v → NamesCellOf n v
names_below n (Orphan stage cell word) below = below
names_below n Accepted below = tt
names_below n (BothRails stage output word) below = tt
names_below n (NoRail stage output word) below = tt
names_below n (Incomplete stage bit word) below = tt
names_below n (Limit stage) below = tt

-- the verdict on a pipeline names no cell but those of its netlist
pub names_cell_of : (n : NetlistData) (p : PipelineData) (limit : ℕ) → Shape n p → NamesCellOf n (judgement limit p.stages)
names_cell_of n p limit shape = names_below n (judgement limit p.stages) (names_of_pipeline n p shape limit)

-- a rule of cells fails first at a cell that is there
cell_within : (n : NetlistData) (Rule : NetlistData → Cell → Type 0) (k : ℕ) → FailsFirst (AtCell Rule n) k → k < length n.cells
cell_within n Rule k first = by (cases_lt k (length n.cells))
  where
    by : (k < length n.cells) ⊎ (length n.cells ≤ k) → k < length n.cells
    by (inl within) = within
    by (inr past) = absurd (first.fails (λ c at. let within = slice_get_within n.cells k c at in absurd (omega arith)))

-- the fault of a netlist's shape names no net and no cell but those of the netlist
pub names_place_of : (n : NetlistData) (fault : ShapeFault) → IsNetlist n → IsShapeFault n fault → NamesPlaceOf n fault
names_place_of n (CellRule (UnusedPort net)) ok broken = by (cases_lt net.0 (length n.nets))
  where
    by : (net.0 < length n.nets) ⊎ (length n.nets ≤ net.0) → net.0 < length n.nets
    by (inl within) = within
    by (inr past) = absurd (broken.breaks.fails (λ (port, at, input). let within = slice_get_within n.ports net.0 port at in absurd (omega (arith, ports-le-nets n ok))))
names_place_of n (CellRule (Cycle cell)) ok broken = cell_within n IsOffCycles cell.0 broken.breaks
names_place_of n (CellRule (Unpaired cell)) ok broken = cell_within n IsPaired cell.0 broken.breaks
names_place_of n (CellRule (Mixed cell)) ok broken = cell_within n IsUnmixed cell.0 broken.breaks
names_place_of n (CellRule (Loose cell)) ok broken = cell_within n IsTied cell.0 broken.breaks
names_place_of n (CellRule CellMemory) ok broken = tt
names_place_of n (NoChain rule) ok broken = tt
names_place_of n (TooWide bank) ok broken = tt
names_place_of n TooLong ok broken = tt
names_place_of n Memory ok broken = tt
