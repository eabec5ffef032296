-- Pipelines with a stage that breaks one condition of soundness each, and for each a run that goes wrong.
use Rattle.std.specs.Prelude.{◌≡◌, ◌≢◌, ℕ, true, false, Bool, List, [], ◌∷◌, ◌++◌, codes}
use Rattle.ncl_gates.specs.declared.kind.Kind.TheVariants.{Th12, Th22}
use Rattle.ncl_gates.specs.declared.cell_kind.CellKind.TheVariants.{Gate}
use Rattle.ncl_netlist.specs.declared.cell.Cell.{Cell}
use Rattle.ncl_netlist.specs.Netlist.{IsNetlist, NetlistData}
use Rattle.ncl_shape.specs.declared.item.Item.{Item}
use Rattle.ncl_shape.specs.declared.item.Item.TheVariants.{Raise, Lower, Take}
use Rattle.ncl_shape.specs.declared.rails.Rails.{Rails}
use Rattle.ncl_shape.specs.Stage.{IsStage, StageData}
use Rattle.ncl_shape.specs.Pipeline.{PipelineData}
use Rattle.ncl_shape.specs.Examples.{rails, bit, cell, input, output, registers, ack_of, one_bit, with_ports, bank, two_banks, one_bit_ports, one_bit_pipeline}
use Rattle.ncl_faults.specs.Examples.{gate, stage}
use Rattle.ncl_faults.specs.Faults.{StageFault, BothRails, NoRail, Incomplete, Orphan, shows, IsWordOf}
use Rattle.ncl_machine.specs.State.{State, reset}
use Rattle.ncl_machine.specs.Run.{IsRun, after}
use Rattle.ncl_insensitivity.specs.Examples.{fire}

-- the condition that a fault breaks, of four
abbrev pub condition_of : StageFault → ℕ
condition_of (BothRails output) = 0
condition_of (NoRail output) = 1
condition_of (Incomplete bit) = 2
condition_of (Orphan cell) = 3

-- a stage breaks one condition and no other: some word shows a fault of it, and no word one of another
pub record BreaksOnly (s : StageData) (fault : StageFault) : Type 0 where
  pub word : List Bool
  pub right : IsWordOf s word
  pub shown : shows s word fault ≡ true
  pub others : (w : List Bool) (other : StageFault) → IsWordOf s w → condition_of other ≢ condition_of fault → shows s w other ≡ false

-- what shows that a condition of soundness is needed: a netlist whose one stage breaks it and keeps the others, and a run
-- over some words
pub record IsCounterexample (p : PipelineData) (s : StageData) (fault : StageFault) (words : List (List Bool)) (items : List Item) : Type 0 where
  pub netlist : IsNetlist p.netlist
  pub stage : IsStage s
  pub breaks : BreaksOnly s fault
  pub run : IsRun p words items

-- the state after a run
abbrev pub after_run : PipelineData → List (List Bool) → List Item → State
after_run p offered items = after p (reset p offered) items

-- ---- the first bank of one bit. The nets are x1_0 0, x1_1 1, ki 2, rst 3, z1_0 4, z1_1 5, ko 6, c 7, p1_0 8,
-- p1_1 9, and g 10, the output of a gate

abbrev pub with_one_bit : List Cell → NetlistData
with_one_bit cells =
    with_ports (codes "t") one_bit_ports (codes "c" ∷ codes "p1_0" ∷ codes "p1_1" ∷ codes "g" ∷ [])
    (one_bit (codes "r1") (rails 0 1) 7 (rails 8 9) (codes "k1") 6 ++ cells)

-- with a gate, and a second bank of one bit that reads two nets
abbrev pub with_gate : Cell → Rails → StageData → PipelineData
with_gate g ins s = one_bit_pipeline (with_one_bit (g ∷ one_bit (codes "s1") ins 2 (rails 4 5) (codes "d1") 7)) 4 s

-- ---- an orphan: besides wires the stage has a TH12 that drives nothing

abbrev pub orphan_stage : StageData
orphan_stage = stage (rails 8 9 ∷ []) (gate 3 Th12 (8 ∷ 9 ∷ []) 10 ∷ []) (rails 8 9 ∷ [])

abbrev pub with_orphan : PipelineData
with_orphan = with_gate (cell (Gate Th12) (codes "g1") (8 ∷ 9 ∷ []) 10) (rails 8 9) orphan_stage

-- the word 1 has gone through both banks while the gate is still to rise, and the source has lowered it
abbrev pub leaves_a_gate_behind : List Item
leaves_a_gate_behind = Raise 0 ∷ fire 1 ∷ fire 5 ∷ fire 6 ∷ fire 2 ∷ Lower 0 ∷ []

-- ---- no rail: rail 0 of the output is a TH22 of both rails of the bit, which no word raises

abbrev pub dead_stage : StageData
dead_stage = stage (rails 8 9 ∷ []) (gate 3 Th22 (8 ∷ 9 ∷ []) 10 ∷ []) (rails 10 9 ∷ [])

abbrev pub with_dead_rail : PipelineData
with_dead_rail = with_gate (cell (Gate Th22) (codes "g1") (8 ∷ 9 ∷ []) 10) (rails 10 9) dead_stage

-- the word 0 is in the first bank, which has acknowledged it, and the source has lowered it
abbrev pub one_zero : List (List Bool)
one_zero = (false ∷ []) ∷ []

abbrev pub gets_stuck : List Item
gets_stuck = Raise 0 ∷ fire 0 ∷ fire 2 ∷ Lower 0 ∷ []

-- ---- both rails: a TH12 of both rails of the bit is rail 0 of two outputs, and the rails of the bit are their
-- rails 1, so at each word one output has both. The nets are x1_0 0, x1_1 1, ki 2, rst 3, z1_0 4, z1_1 5, z2_0 6,
-- z2_1 7, ko 8, c 9, p1_0 10, p1_1 11, g 12, e1 13, e2 14

abbrev pub illegal_stage : StageData
illegal_stage = stage (rails 10 11 ∷ []) (gate 3 Th12 (10 ∷ 11 ∷ []) 12 ∷ []) (rails 12 11 ∷ rails 12 10 ∷ [])

abbrev pub with_both_rails : PipelineData
with_both_rails =
    two_banks
    (with_ports (codes "t")
    (input (codes "x1_0") ∷ input (codes "x1_1") ∷ input (codes "ki") ∷ input (codes "rst") ∷ output (codes "z1_0")
    ∷ output (codes "z1_1") ∷ output (codes "z2_0") ∷ output (codes "z2_1") ∷ output (codes "ko") ∷ [])
    (codes "c" ∷ codes "p1_0" ∷ codes "p1_1" ∷ codes "g" ∷ codes "e1" ∷ codes "e2" ∷ [])
    (one_bit (codes "r1") (rails 0 1) 9 (rails 10 11) (codes "k1") 8
    ++ cell (Gate Th12) (codes "g1") (10 ∷ 11 ∷ []) 12
    ∷ registers (codes "s1") (rails 12 11) 2 3 (rails 4 5)
    ++ registers (codes "s2") (rails 12 10) 2 3 (rails 6 7)
    ++ ack_of (codes "d1") (rails 4 5) 13
    ∷ ack_of (codes "d2") (rails 6 7) 14
    ∷ cell (Gate Th22) (codes "dt") (13 ∷ 14 ∷ []) 9
    ∷ []))
    (bank (bit 0 1 2 ∷ []) 9 8) (bank (bit 4 5 8 ∷ bit 6 7 9 ∷ []) 2 9) illegal_stage (rails 0 1 ∷ []) (rails 4 5 ∷ rails 6 7 ∷ [])

-- the word 1 comes to the sink, with both rails of the first output
abbrev pub delivers_both_rails : List Item
delivers_both_rails = Raise 0 ∷ fire 1 ∷ fire 3 ∷ fire 4 ∷ fire 5 ∷ fire 6 ∷ Take ∷ []

-- ---- incomplete: an AND of two bits whose rail 0 is a TH12 of their rails 0, and has DATA as soon as one bit is 0.
-- The nets are x1_0 0, x1_1 1, x2_0 2, x2_1 3, ki 4, rst 5, z1_0 6, z1_1 7, ko 8, c 9, p1_0 10, p1_1 11, p2_0 12,
-- p2_1 13, e1 14, e2 15, a1 16, a0 17

abbrev pub eager_stage : StageData
eager_stage =
    stage (rails 10 11 ∷ rails 12 13 ∷ []) (gate 7 Th22 (11 ∷ 13 ∷ []) 16 ∷ gate 8 Th12 (10 ∷ 12 ∷ []) 17 ∷ [])
    (rails 17 16 ∷ [])

abbrev pub with_eager_and : PipelineData
with_eager_and =
    two_banks
    (with_ports (codes "t")
    (input (codes "x1_0") ∷ input (codes "x1_1") ∷ input (codes "x2_0") ∷ input (codes "x2_1") ∷ input (codes "ki")
    ∷ input (codes "rst") ∷ output (codes "z1_0") ∷ output (codes "z1_1") ∷ output (codes "ko") ∷ [])
    (codes "c" ∷ codes "p1_0" ∷ codes "p1_1" ∷ codes "p2_0" ∷ codes "p2_1" ∷ codes "e1" ∷ codes "e2" ∷ codes "a1" ∷ codes "a0" ∷ [])
    (registers (codes "r1") (rails 0 1) 9 5 (rails 10 11)
    ++ registers (codes "r2") (rails 2 3) 9 5 (rails 12 13)
    ++ ack_of (codes "k1") (rails 10 11) 14
    ∷ ack_of (codes "k2") (rails 12 13) 15
    ∷ cell (Gate Th22) (codes "kt") (14 ∷ 15 ∷ []) 8
    ∷ cell (Gate Th22) (codes "g1") (11 ∷ 13 ∷ []) 16
    ∷ cell (Gate Th12) (codes "g0") (10 ∷ 12 ∷ []) 17
    ∷ registers (codes "s1") (rails 17 16) 4 5 (rails 6 7)
    ++ ack_of (codes "d1") (rails 6 7) 9
    ∷ []))
    (bank (bit 0 1 4 ∷ bit 2 3 5 ∷ []) 9 8) (bank (bit 9 10 11 ∷ []) 4 9) eager_stage (rails 0 1 ∷ rails 2 3 ∷ []) (rails 6 7 ∷ [])

abbrev pub two_zeros : List (List Bool)
two_zeros = (false ∷ false ∷ []) ∷ []

-- the first bit of the word 00 is raised, and by itself comes to the sink
abbrev pub delivers_too_early : List Item
delivers_too_early = Raise 0 ∷ fire 0 ∷ fire 8 ∷ fire 9 ∷ Take ∷ []
