-- What the parts of a bank are: two register cells and an acknowledge cell for each bit, and a completion tree
-- (Fant and Brandt 1996; Smith and Di 2009).
use Rattle.std.specs.Prelude.{◌≡◌, ◌≢◌, ℕ, ◌*◌, ◌≤◌, List, [], ◌∷◌, ◌++◌, All, Contains, length, map}
use Rattle.std.specs.List.{flat_map, zip}
use Rattle.ncl_base.specs.declared.word.TheConstants.{MOST_BITS}
use Rattle.ncl_gates.specs.declared.kind.Kind.{Kind}
use Rattle.ncl_gates.specs.declared.cell_kind.CellKind.TheVariants.{Gate, Register, Ack}
use Rattle.ncl_netlist.specs.declared.parts.NamePair.{NamePair}
use Rattle.ncl_netlist.specs.declared.parts.PartCell.{PartCell}
use Rattle.ncl_netlist.specs.Names.{AllDiffer}
use Rattle.ncl_netlist.specs.Parts.{HasAllPins, input_names, output_name}
use Rattle.ncl_tree.specs.declared.tree.Family.TheVariants.{All as Conjunctions}
use Rattle.ncl_tree.specs.GateTree.{IsOfFamily}
use Rattle.ncl_tree.specs.PartNames.{IsPartName}
use Rattle.ncl_tree.specs.NamePairs.{pair_list, pair_names, IsFreeOf}
use Rattle.ncl_bank.specs.declared.parts.BankParts.{BankParts}

-- what is asked: 1 to 128 pairs and as many, names that differ, and none that begins with the prefix
pub record CanBeBank (ins outs : List NamePair) (request rst root : List ℕ) (prefix : List ℕ) : Type 0 where
  pub some : 1 ≤ length ins
  pub few : length ins ≤ MOST_BITS
  pub as_many : length outs ≡ length ins
  pub differ : AllDiffer (request ∷ rst ∷ root ∷ pair_names outs)
  pub free : IsFreeOf prefix (request ∷ rst ∷ root ∷ pair_names outs)
  pub free_ins : IsFreeOf prefix (pair_names ins)

-- the pins of the two register cells of a bit: a rail on A, the request on B, the reset, and the rail that it drives
abbrev pub register_pins : List ℕ → List ℕ → NamePair → NamePair → List (List (List ℕ))
register_pins request rst from to =
    (from.zero ∷ request ∷ rst ∷ to.zero ∷ []) ∷ (from.one ∷ request ∷ rst ∷ to.one ∷ []) ∷ []

-- those of the register cells of a bank, rail 0 before rail 1, bit by bit
abbrev pub bank_pins : List NamePair → List NamePair → List ℕ → List ℕ → List (List (List ℕ))
bank_pins ins outs request rst =
    flat_map (λ (from, to). register_pins request rst from to) (zip ins outs)

-- a cell of a completion tree: TH22, TH33 or TH44 with a net at each pin
pub record IsTreeCell (cell : PartCell) : Type 0 where
  pub kind : (kind : Kind) × (cell.kind ≡ Gate kind) × IsOfFamily Conjunctions kind
  pub all_pins : HasAllPins cell

-- each tree cell reads what acknowledge cells and earlier tree cells drive
abbrev pub TreeReads : List PartCell → List PartCell → Type 0
TreeReads acks tree =
    (before after : List PartCell) (cell : PartCell) → tree ≡ before ++ cell ∷ after → All (Contains (map output_name (acks ++ before))) (input_names cell)

-- a bank between rails of these names: register cells, acknowledge cells and the completion tree
pub record AreBankParts (ins outs : List NamePair) (request rst root : List ℕ) (prefix : List ℕ) (parts : BankParts) : Type 0 where
  pub registers : List PartCell
  pub acks : List PartCell
  pub tree : List PartCell
  pub cells : parts.cells ≡ registers ++ (acks ++ tree)
  -- two register cells for each bit
  pub register_kinds : All (λ (cell : PartCell). cell.kind ≡ Register) registers
  pub register_pins : map (λ (cell : PartCell). cell.pins) registers ≡ bank_pins ins outs request rst
  -- an acknowledge cell for each bit, in the order of the bits
  pub ack_kinds : All (λ (cell : PartCell). cell.kind ≡ Ack) acks
  pub ack_inputs : map input_names acks ≡ map pair_list outs
  pub ack_pins : All HasAllPins acks
  -- the tree: each of its nets but the root is read by a tree cell, and the root is driven by its last cell, or by
  -- the acknowledge cell where there is one bit
  pub tree_cells : All IsTreeCell tree
  pub tree_reads : TreeReads acks tree
  pub all_read : (name : List ℕ) → Contains (map output_name (acks ++ tree)) name → name ≢ root → (cell : PartCell) × Contains tree cell × Contains (input_names cell) name
  pub root_driven : Contains (map output_name (acks ++ tree)) root
  pub root_unread : (cell : PartCell) → Contains tree cell → Contains (input_names cell) root → ⊥
  pub one_bit : length ins ≡ 1 → tree ≡ []
  -- at most four cells a bit
  pub few : length parts.cells ≤ 4 * length ins
  -- names of cells, and of nets that are not given, are made from the prefix, and all differ
  pub cell_names : All (λ (cell : PartCell). IsPartName prefix cell.name) parts.cells
  pub inner_names : (name : List ℕ) → Contains (map output_name (acks ++ tree)) name → name ≢ root → IsPartName prefix name
  pub cells_differ : AllDiffer (map (λ (cell : PartCell). cell.name) parts.cells)
  pub nets_differ : AllDiffer (map output_name parts.cells)
  pub no_cell_is_net : (cell other : PartCell) → Contains parts.cells cell → Contains parts.cells other → cell.name ≢ output_name other
