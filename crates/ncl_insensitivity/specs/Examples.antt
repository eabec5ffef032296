-- Worked examples: a word goes through two banks joined by wires, and through two joined by a chain of gates; and the
-- word that a bank holds at reset goes before the one that is offered.
use Rattle.std.specs.Prelude.{ℕ, true, false, Bool, Some, List, [], ◌∷◌, ◌++◌, take, codes}
use Rattle.ncl_gates.specs.declared.kind.Kind.TheVariants.{Th22}
use Rattle.ncl_gates.specs.declared.cell_kind.CellKind.TheVariants.{Gate, Register, RegisterData}
use Rattle.ncl_netlist.specs.Netlist.{NetlistData}
use Rattle.ncl_shape.specs.Stage.{StageData}
use Rattle.ncl_shape.specs.Pipeline.{PipelineData}
use Rattle.ncl_shape.specs.declared.item.Item.{Item}
use Rattle.ncl_shape.specs.declared.item.Item.TheVariants.{Cell, Raise, Lower, Take, Ready}
use Rattle.ncl_shape.specs.Examples.{rails, bit, cell, ack_of, one_bit, with_ports, bank, wired, one_bit_ports, one_bit_pipeline, wires_pipeline, three}
use Rattle.ncl_faults.specs.Examples.{gate, stage}
use Rattle.ncl_machine.specs.State.{State, reset}
use Rattle.ncl_machine.specs.Run.{after}

abbrev pub fire : ℕ → Item
fire cell = Cell (record { 0 = cell })

-- the word 1
abbrev pub one_word : List (List Bool)
one_word = (true ∷ []) ∷ []

-- rail 1 rises through both banks and is taken; the NULL that follows passes, and the sink is ready again
abbrev pub through_wires : List Item
through_wires =
    Raise 0 ∷ fire 1 ∷ fire 2 ∷ fire 4 ∷ Lower 0 ∷ Take
    ∷ fire 5 ∷ fire 1 ∷ fire 2 ∷ fire 4 ∷ fire 5 ∷ Ready ∷ []

-- where it ends
abbrev pub at_the_end : State
at_the_end = after wires_pipeline (reset wires_pipeline one_word) through_wires

-- on the way, once the first bank has passed rail 1 on and acknowledged it: the source may lower the rail,
-- and the second bank may pass it on
abbrev pub where_two_may_move : State
where_two_may_move = after wires_pipeline (reset wires_pipeline one_word) (take 3 through_wires)

-- ---- a chain of four TH22 on rail 1, so that most nets change with the word 1. The nets are x1_0 0, x1_1 1, ki 2,
-- rst 3, z1_0 4, z1_1 5, ko 6, c 7, p1_0 8, p1_1 9, g1 10, g2 11, g3 12, g4 13

abbrev pub chain : NetlistData
chain =
    with_ports (codes "chain") one_bit_ports
    (codes "c" ∷ codes "p1_0" ∷ codes "p1_1" ∷ codes "g1" ∷ codes "g2" ∷ codes "g3" ∷ codes "g4" ∷ [])
    (one_bit (codes "r1") (rails 0 1) 7 (rails 8 9) (codes "k1") 6
    ++ cell (Gate Th22) (codes "t1") (9 ∷ 9 ∷ []) 10
    ∷ cell (Gate Th22) (codes "t2") (10 ∷ 10 ∷ []) 11
    ∷ cell (Gate Th22) (codes "t3") (11 ∷ 11 ∷ []) 12
    ∷ cell (Gate Th22) (codes "t4") (12 ∷ 12 ∷ []) 13
    ∷ one_bit (codes "s1") (rails 8 13) 2 (rails 4 5) (codes "d1") 7)

abbrev pub chain_stage : StageData
chain_stage =
    stage (rails 8 9 ∷ [])
    (gate 3 Th22 (9 ∷ 9 ∷ []) 10 ∷ gate 4 Th22 (10 ∷ 10 ∷ []) 11 ∷ gate 5 Th22 (11 ∷ 11 ∷ []) 12 ∷ gate 6 Th22 (12 ∷ 12 ∷ []) 13 ∷ [])
    (rails 8 13 ∷ [])

abbrev pub chain_pipeline : PipelineData
chain_pipeline = one_bit_pipeline chain 7 chain_stage

-- the word 1 and the NULL after it go through
abbrev pub through_chain : List Item
through_chain =
    Raise 0 ∷ fire 1 ∷ fire 3 ∷ fire 4 ∷ fire 5 ∷ fire 6 ∷ fire 8 ∷ fire 9 ∷ fire 2 ∷ Lower 0 ∷ Take
    ∷ fire 1 ∷ fire 2 ∷ fire 3 ∷ fire 4 ∷ fire 5 ∷ fire 6 ∷ fire 8 ∷ fire 9 ∷ Ready ∷ []

abbrev pub where_the_chain_rests : State
where_the_chain_rests = after chain_pipeline (reset chain_pipeline one_word) through_chain

-- ---- three banks of one bit, joined by wires, of which the second holds the word 1 at reset. The nets are those of
-- `three`: x1_0 0, x1_1 1, ki 2, rst 3, z1_0 4, z1_1 5, ko 6, c1 7, p1_0 8, p1_1 9, c2 10, v1_0 11, v1_1 12

abbrev pub holding : NetlistData
holding = record three {
  name = codes "holding";
  cells =
      one_bit (codes "r1") (rails 0 1) 7 (rails 8 9) (codes "k1") 6
      ++ cell Register (codes "q1_0") (8 ∷ 10 ∷ 3 ∷ []) 11
      ∷ cell RegisterData (codes "q1_1") (9 ∷ 10 ∷ 3 ∷ []) 12
      ∷ ack_of (codes "h1") (rails 11 12) 7
      ∷ one_bit (codes "s1") (rails 11 12) 2 (rails 4 5) (codes "d1") 10;
}

abbrev pub holding_pipeline : PipelineData
holding_pipeline = record {
  netlist = holding;
  banks = bank (bit 0 1 2 ∷ []) 7 6 ∷ bank (record (bit 3 4 5) { start = Some true } ∷ []) 10 7 ∷ bank (bit 6 7 8 ∷ []) 2 10 ∷ [];
  stages = wired 1 (rails 8 9 ∷ []) ∷ wired 2 (rails 11 12 ∷ []) ∷ [];
  inputs = rails 0 1 ∷ [];
  outputs = rails 4 5 ∷ [];
  ki = 2;
  ko = 6;
}

-- the word 0
abbrev pub zero_word : List (List Bool)
zero_word = (false ∷ []) ∷ []

-- the last bank passes the word that is held, and the NULL after it; then the word that is offered goes through
abbrev pub through_holding : List Item
through_holding =
    fire 7 ∷ Take ∷ fire 8 ∷ fire 4 ∷ fire 7 ∷ Ready ∷ fire 8 ∷ fire 5
    ∷ Raise 0 ∷ fire 0 ∷ fire 3 ∷ fire 6 ∷ Take ∷ fire 8 ∷ fire 5 ∷ fire 2
    ∷ Lower 0 ∷ fire 0 ∷ fire 3 ∷ fire 6 ∷ Ready ∷ fire 8 ∷ fire 5 ∷ fire 2 ∷ []

abbrev pub where_holding_rests : State
where_holding_rests = after holding_pipeline (reset holding_pipeline zero_word) through_holding
