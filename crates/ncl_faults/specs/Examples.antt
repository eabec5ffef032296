-- Worked examples of stages: an AND of two bits and its broken forms, crossed rails, a full adder, bits in another order.
use Rattle.std.specs.Prelude.{ℕ, List, [], ◌∷◌, ◌++◌, map}
use Rattle.ncl_gates.specs.declared.kind.Kind.{Kind}
use Rattle.ncl_gates.specs.declared.kind.Kind.TheVariants.{Th12, Th22, Th23, Th24comp, Th34w2, ThAnd0}
use Rattle.ncl_netlist.specs.declared.ids.NetId.{NetId}
use Rattle.ncl_shape.specs.declared.rails.Rails.{Rails}
use Rattle.ncl_shape.specs.declared.stage.StageCell.{StageCell}
use Rattle.ncl_shape.specs.Stage.{StageData}

abbrev pub net_id : ℕ → NetId
net_id n = record { 0 = n }

abbrev pub rails : ℕ → ℕ → Rails
rails rail0 rail1 = record { zero = net_id rail0; one = net_id rail1 }

-- the gate cell with a number in the file, its input nets and its output net
abbrev pub gate : ℕ → Kind → List ℕ → ℕ → StageCell
gate number kind ins out = record { cell = record { 0 = number }; kind = kind; ins = record { items = map net_id ins }; out = net_id out }

-- the first stage of a pipeline
abbrev pub stage : List Rails → List StageCell → List Rails → StageData
stage inputs cells outputs = record { number = 1; inputs = inputs; cells = cells; outputs = outputs }

-- two bits, on the nets 0 to 3
abbrev pub two_bits : List Rails
two_bits = rails 0 1 ∷ rails 2 3 ∷ []

-- rail 1 of an AND, and rail 0, on the nets 4 and 5
abbrev pub and_one : StageCell
and_one = gate 6 Th22 (1 ∷ 3 ∷ []) 4

abbrev pub and_zero : StageCell
and_zero = gate 7 ThAnd0 (0 ∷ 2 ∷ 1 ∷ 3 ∷ []) 5

abbrev pub and_stage : StageData
and_stage = stage two_bits (and_one ∷ and_zero ∷ []) (rails 5 4 ∷ [])

-- with a TH12 for rail 0: the output is DATA0 as soon as one bit is
abbrev pub eager_and_stage : StageData
eager_and_stage = stage two_bits (and_one ∷ gate 7 Th12 (0 ∷ 2 ∷ []) 5 ∷ []) (rails 5 4 ∷ [])

-- with a further TH22 that drives nothing
abbrev pub orphan_and_stage : StageData
orphan_and_stage = stage two_bits (and_one ∷ and_zero ∷ gate 8 Th22 (1 ∷ 3 ∷ []) 6 ∷ []) (rails 5 4 ∷ [])

-- wires from rail 0 of the second bit and rail 1 of the first
abbrev pub crossed_stage : StageData
crossed_stage = stage two_bits [] (rails 2 1 ∷ [])

-- a rail that no word raises
abbrev pub dead_rail_stage : StageData
dead_rail_stage = stage (rails 0 1 ∷ []) (gate 3 Th22 (0 ∷ 1 ∷ []) 2 ∷ []) (rails 2 1 ∷ [])

-- the carry and the sum of three bits, on the nets 6 to 9
abbrev pub adder_cells : List StageCell
adder_cells =
    gate 9 Th23 (0 ∷ 2 ∷ 4 ∷ []) 6
    ∷ gate 10 Th23 (1 ∷ 3 ∷ 5 ∷ []) 7
    ∷ gate 11 Th34w2 (7 ∷ 0 ∷ 2 ∷ 4 ∷ []) 8
    ∷ gate 12 Th34w2 (6 ∷ 1 ∷ 3 ∷ 5 ∷ []) 9
    ∷ []

abbrev pub adder_stage : StageData
adder_stage = stage (two_bits ++ rails 4 5 ∷ []) adder_cells (rails 6 7 ∷ rails 8 9 ∷ [])

-- the sum alone
abbrev pub sum_stage : StageData
sum_stage = stage (two_bits ++ rails 4 5 ∷ []) adder_cells (rails 8 9 ∷ [])

-- outputs beside a gate of two bits, which is high at the words 01 and 10
abbrev pub beside_gate : List Rails → StageData
beside_gate outputs = stage two_bits (gate 6 Th24comp (0 ∷ 2 ∷ 1 ∷ 3 ∷ []) 4 ∷ []) outputs

-- with wires from the second bit and the first, so that no output observes the gate
abbrev pub swapped_stage : StageData
swapped_stage = beside_gate (rails 2 3 ∷ rails 0 1 ∷ [])

-- the same with the wires in the order of the bits
abbrev pub straight_stage : StageData
straight_stage = beside_gate (rails 0 1 ∷ rails 2 3 ∷ [])

-- three bits of which only the second goes to an output
abbrev pub unmet_stage : StageData
unmet_stage = stage (two_bits ++ rails 4 5 ∷ []) [] (rails 2 3 ∷ [])
