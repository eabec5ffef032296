-- Pipelines that lack one condition of shape, and for each a run that goes wrong.
use Rattle.std.specs.Prelude.{◌≡◌, ◌≢◌, ℕ, ◌+◌, true, false, Bool, List, [], ◌∷◌, ◌++◌, codes}
use Rattle.ncl_gates.specs.declared.kind.Kind.{Kind}
use Rattle.ncl_gates.specs.declared.kind.Kind.TheVariants.{Th12, Th22}
use Rattle.ncl_gates.specs.declared.cell_kind.CellKind.TheVariants.{Gate}
use Rattle.ncl_netlist.specs.declared.cell.Cell.{Cell}
use Rattle.ncl_netlist.specs.Netlist.{NetlistData}
use Rattle.ncl_shape.specs.declared.item.Item.{Item}
use Rattle.ncl_shape.specs.declared.item.Item.TheVariants.{Raise, Lower}
use Rattle.ncl_shape.specs.Pipeline.{PipelineData}
use Rattle.ncl_shape.specs.Examples.{rails, bit, output, cell, with_ports, bank, wired, two_banks, two_bit_ports, two_bit_cells, bit_left_out}
use Rattle.ncl_machine.specs.State.{State}
use Rattle.ncl_machine.specs.Steps.{enabled, step}
use Rattle.ncl_insensitivity.specs.Examples.{fire}

-- an item takes another back: both can happen, and once the first has, the second no longer can
pub record TakesBack (p : PipelineData) (s : State) (item other : Item) : Type 0 where
  pub differ : item ≢ other
  pub can : enabled p s item ≡ true
  pub other_can : enabled p s other ≡ true
  pub other_lost : enabled p (step p s item) other ≡ false

-- the words 11, once and twice
abbrev pub ones : List Bool
ones = true ∷ true ∷ []

abbrev pub one_offered : List (List Bool)
one_offered = ones ∷ []

abbrev pub two_offered : List (List Bool)
two_offered = ones ∷ ones ∷ []

-- two banks of two bits, joined by wires, with the ports and nets of `bit_left_out`: a gate of some kind
-- completes the first bank, and there may be further cells
abbrev pub two_bits : Kind → List Cell → NetlistData
two_bits completes more = record bit_left_out { cells = two_bit_cells 11 16 completes (16 ∷ 17 ∷ []) ++ more }

-- such a netlist as a pipeline, by the request of the first bank and its root
abbrev pub pipeline_of : NetlistData → ℕ → ℕ → PipelineData
pipeline_of n request root =
    let through = rails (request + 1) (request + 2) ∷ rails (request + 3) (request + 4) ∷ [] in
    two_banks n (bank (bit 0 1 4 ∷ bit 2 3 5 ∷ []) request root) (bank (bit 7 8 11 ∷ bit 9 10 12 ∷ []) 4 request)
    (wired 1 through) (rails 0 1 ∷ rails 2 3 ∷ []) (rails 6 7 ∷ rails 8 9 ∷ [])

-- the completion tree leaves out the second bit. The source has raised both bits; the first bank has passed
-- the first on, and acknowledges without the second
abbrev pub without_a_bit : PipelineData
without_a_bit = pipeline_of bit_left_out 11 10

abbrev pub acknowledges_one_bit : List Item
acknowledges_one_bit = Raise 0 ∷ Raise 1 ∷ fire 1 ∷ fire 4 ∷ fire 6 ∷ []

-- a TH12 completes the first bank, which then asks for DATA as soon as one bit is NULL. A word has gone
-- through the first bank and into the second, the source has lowered it, and one bit of the first bank is NULL
abbrev pub with_th12 : PipelineData
with_th12 = pipeline_of (two_bits Th12 []) 11 10

abbrev pub asks_too_early : List Item
asks_too_early =
    Raise 0 ∷ Raise 1 ∷ fire 1 ∷ fire 3 ∷ fire 4 ∷ fire 5 ∷ fire 6
    ∷ fire 8 ∷ fire 10 ∷ fire 11 ∷ fire 12 ∷ fire 13
    ∷ Lower 0 ∷ Lower 1 ∷ fire 1 ∷ fire 4 ∷ fire 6 ∷ []

-- a second gate drives the net by which the first bank acknowledges; it reads what the first gate reads, and
-- both are excited where the bank is DATA
abbrev pub with_two_drivers : PipelineData
with_two_drivers = pipeline_of (two_bits Th22 (cell (Gate Th22) (codes "k2t") (16 ∷ 17 ∷ []) 10 ∷ [])) 11 10

abbrev pub excites_both : List Item
excites_both = Raise 0 ∷ Raise 1 ∷ fire 1 ∷ fire 3 ∷ fire 4 ∷ fire 5 ∷ []

-- the first bank has two roots, the output ports ko and e1: the one is driven by its completion cell, the other
-- by the acknowledge cell of its first bit. The nets are x1_0 0, x1_1 1, x2_0 2, x2_1 3, ki 4, rst 5, z1_0 6,
-- z1_1 7, z2_0 8, z2_1 9, ko 10, e1 11, c 12, p1_0 13, p1_1 14, p2_0 15, p2_1 16, e2 17, f1 18, f2 19
abbrev pub two_roots : NetlistData
two_roots =
    with_ports (codes "t") (two_bit_ports ++ output (codes "e1") ∷ [])
    (codes "c" ∷ codes "p1_0" ∷ codes "p1_1" ∷ codes "p2_0" ∷ codes "p2_1" ∷ codes "e2" ∷ codes "f1" ∷ codes "f2" ∷ [])
    (two_bit_cells 12 11 Th22 (11 ∷ 17 ∷ []))

-- the source goes by the root that tells of one bit alone. It has raised both bits, the first bank has passed
-- the first on, and its acknowledge cell has seen it
abbrev pub with_two_roots : PipelineData
with_two_roots = pipeline_of two_roots 12 11

abbrev pub one_bit_seen : List Item
one_bit_seen = Raise 0 ∷ Raise 1 ∷ fire 1 ∷ fire 4 ∷ []
