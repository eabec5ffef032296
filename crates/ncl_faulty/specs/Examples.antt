-- Pipelines with one fault each. Their cells are listed bank by bank, and the gates of the stages after them.
use Rattle.std.specs.Prelude.{[], ◌∷◌, ◌++◌, codes}
use Rattle.ncl_gates.specs.declared.kind.Kind.{Kind}
use Rattle.ncl_gates.specs.declared.kind.Kind.TheVariants.{Th12, Th22, Th24comp}
use Rattle.ncl_gates.specs.declared.cell_kind.CellKind.TheVariants.{Gate}
use Rattle.ncl_netlist.specs.Netlist.{NetlistData}
use Rattle.ncl_shape.specs.declared.rails.Rails.{Rails}
use Rattle.ncl_shape.specs.Stage.{StageData}
use Rattle.ncl_shape.specs.Pipeline.{PipelineData}
use Rattle.ncl_shape.specs.Examples.{rails, bit, cell, input, output, registers, ack_of, one_bit, with_ports, bank, two_banks, one_bit_ports, one_bit_pipeline}
use Rattle.ncl_faults.specs.Examples.{gate, stage}

-- ---- two banks of one bit, and between them a gate of both rails of the bit. The nets are x1_0 0, x1_1 1, ki 2, rst 3,
-- z1_0 4, z1_1 5, ko 6, c 7, p1_0 8, p1_1 9, and g 10, the output of the gate

-- by the kind of the gate, and the rails that the second bank reads
abbrev pub gate_netlist : Kind → Rails → NetlistData
gate_netlist kind reads =
    with_ports (codes "t") one_bit_ports (codes "c" ∷ codes "p1_0" ∷ codes "p1_1" ∷ codes "g" ∷ [])
    (one_bit (codes "r1") (rails 0 1) 7 (rails 8 9) (codes "k1") 6
    ++ one_bit (codes "s1") reads 2 (rails 4 5) (codes "d1") 7
    ++ cell (Gate kind) (codes "g1") (8 ∷ 9 ∷ []) 10
    ∷ [])

abbrev pub gate_stage : Kind → Rails → StageData
gate_stage kind reads = stage (rails 8 9 ∷ []) (gate 6 kind (8 ∷ 9 ∷ []) 10 ∷ []) (reads ∷ [])

abbrev pub with_gate : Kind → Rails → PipelineData
with_gate kind reads = one_bit_pipeline (gate_netlist kind reads) 3 (gate_stage kind reads)

-- both rails: rail 0 is a TH12 of both rails of the bit, and rail 1 that of the bit
abbrev pub with_both_rails : PipelineData
with_both_rails = with_gate Th12 (rails 10 9)

-- no rail: rail 0 is a TH22 of both rails of the bit, which no word raises
abbrev pub with_dead_rail : PipelineData
with_dead_rail = with_gate Th22 (rails 10 9)

-- an orphan: wires, and a TH12 that nothing reads
abbrev pub with_orphan : PipelineData
with_orphan = with_gate Th12 (rails 8 9)

-- ---- incomplete: an AND of two bits whose rail 0 is a TH12 of their rails 0. The nets are x1_0 0, x1_1 1, x2_0 2, x2_1 3,
-- ki 4, rst 5, z1_0 6, z1_1 7, ko 8, c 9, p1_0 10, p1_1 11, p2_0 12, p2_1 13, e1 14, e2 15, y0 16, y1 17

abbrev pub eager_netlist : NetlistData
eager_netlist =
    with_ports (codes "t")
    (input (codes "x1_0") ∷ input (codes "x1_1") ∷ input (codes "x2_0") ∷ input (codes "x2_1") ∷ input (codes "ki")
    ∷ input (codes "rst") ∷ output (codes "z1_0") ∷ output (codes "z1_1") ∷ output (codes "ko") ∷ [])
    (codes "c" ∷ codes "p1_0" ∷ codes "p1_1" ∷ codes "p2_0" ∷ codes "p2_1" ∷ codes "e1" ∷ codes "e2" ∷ codes "y0" ∷ codes "y1" ∷ [])
    (registers (codes "r1") (rails 0 1) 9 5 (rails 10 11)
    ++ registers (codes "r2") (rails 2 3) 9 5 (rails 12 13)
    ++ ack_of (codes "k1") (rails 10 11) 14
    ∷ ack_of (codes "k2") (rails 12 13) 15
    ∷ cell (Gate Th22) (codes "kt") (14 ∷ 15 ∷ []) 8
    ∷ registers (codes "s1") (rails 16 17) 4 5 (rails 6 7)
    ++ ack_of (codes "d1") (rails 6 7) 9
    ∷ cell (Gate Th12) (codes "g0") (10 ∷ 12 ∷ []) 16
    ∷ cell (Gate Th22) (codes "g1") (11 ∷ 13 ∷ []) 17
    ∷ [])

abbrev pub eager_stage : StageData
eager_stage =
    stage (rails 10 11 ∷ rails 12 13 ∷ []) (gate 10 Th12 (10 ∷ 12 ∷ []) 16 ∷ gate 11 Th22 (11 ∷ 13 ∷ []) 17 ∷ [])
    (rails 16 17 ∷ [])

abbrev pub with_eager_and : PipelineData
with_eager_and =
    two_banks eager_netlist (bank (bit 0 1 4 ∷ bit 2 3 5 ∷ []) 9 8) (bank (bit 7 8 9 ∷ []) 4 9) eager_stage
    (rails 0 1 ∷ rails 2 3 ∷ []) (rails 6 7 ∷ [])

-- ---- a fault that no input brings: a bank of one bit, whose rails two banks of two bits hand on twice, and a gate that is
-- high where these differ, which nothing reads. The nets are x1_0 0, x1_1 1, ki 2, rst 3, z1_0 4, z1_1 5, z2_0 6, z2_1 7,
-- ko 8, b 9, w_0 10, w_1 11, c 12, p1_0 13, p1_1 14, p2_0 15, p2_1 16, e1 17, e2 18, f1 19, f2 20, n9 21

abbrev pub twins_netlist : NetlistData
twins_netlist =
    with_ports (codes "t")
    (input (codes "x1_0") ∷ input (codes "x1_1") ∷ input (codes "ki") ∷ input (codes "rst") ∷ output (codes "z1_0")
    ∷ output (codes "z1_1") ∷ output (codes "z2_0") ∷ output (codes "z2_1") ∷ output (codes "ko") ∷ [])
    (codes "b" ∷ codes "w_0" ∷ codes "w_1" ∷ codes "c" ∷ codes "p1_0" ∷ codes "p1_1" ∷ codes "p2_0" ∷ codes "p2_1"
    ∷ codes "e1" ∷ codes "e2" ∷ codes "f1" ∷ codes "f2" ∷ codes "n9" ∷ [])
    (one_bit (codes "b") (rails 0 1) 9 (rails 10 11) (codes "kb") 8
    ++ registers (codes "r1") (rails 10 11) 12 3 (rails 13 14)
    ++ registers (codes "r2") (rails 10 11) 12 3 (rails 15 16)
    ++ ack_of (codes "k1") (rails 13 14) 17
    ∷ ack_of (codes "k2") (rails 15 16) 18
    ∷ cell (Gate Th22) (codes "kt") (17 ∷ 18 ∷ []) 9
    ∷ registers (codes "s1") (rails 13 14) 2 3 (rails 4 5)
    ++ registers (codes "s2") (rails 15 16) 2 3 (rails 6 7)
    ++ ack_of (codes "d1") (rails 4 5) 19
    ∷ ack_of (codes "d2") (rails 6 7) 20
    ∷ cell (Gate Th22) (codes "dt") (19 ∷ 20 ∷ []) 12
    ∷ cell (Gate Th24comp) (codes "u9") (13 ∷ 15 ∷ 14 ∷ 16 ∷ []) 21
    ∷ [])

-- the stage that hands its bit on twice, and the one with the gate
abbrev pub doubling : StageData
doubling = stage (rails 10 11 ∷ []) [] (rails 10 11 ∷ rails 10 11 ∷ [])

abbrev pub differing : StageData
differing = record {
  number = 2;
  inputs = rails 13 14 ∷ rails 15 16 ∷ [];
  cells = gate 17 Th24comp (13 ∷ 15 ∷ 14 ∷ 16 ∷ []) 21 ∷ [];
  outputs = rails 13 14 ∷ rails 15 16 ∷ [];
}

abbrev pub twins : PipelineData
twins = record {
  netlist = twins_netlist;
  banks = bank (bit 0 1 2 ∷ []) 9 8 ∷ bank (bit 3 4 7 ∷ bit 5 6 8 ∷ []) 12 9 ∷ bank (bit 10 11 14 ∷ bit 12 13 15 ∷ []) 2 12 ∷ [];
  stages = doubling ∷ differing ∷ [];
  inputs = rails 0 1 ∷ [];
  outputs = rails 4 5 ∷ rails 6 7 ∷ [];
  ki = 2;
  ko = 8;
}
