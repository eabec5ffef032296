-- The rules beside the grammar, said of a whole text without vectors and without declarations in its header.
use Rattle.std.specs.Prelude.{◌≡◌, ◌≢◌, ◌↔◌, ℕ, List, [], ◌∷◌, map, Contains, All, Some, None}
use Rattle.std.specs.List.{flat_map}
use Rattle.ncl_gates.specs.declared.cell_kind.CellKind.{CellKind}
use Rattle.ncl_gates.specs.Name.{cell_name_of}
use Rattle.ncl_gates.specs.Cell.{pins_of}
use Rattle.ncl_netlist.specs.Names.{AllDiffer}
use Rattle.ncl_reader.specs.Grammar.{Row, all_of, Direction, Group, Conn, Item, Declares, Joins, Ansi, Text, header_of}
use Rattle.ncl_reader.specs.Rules.{directed_by}
use Rattle.ncl_reader.specs.Says.{Joined, joined_in}

-- an instance is of a cell, and joins each of its pins once
pub record IsInstanceOf (kind : CellKind) (joined : Joined) : Type 0 where
  pub cell : cell_name_of kind ≡ joined.cell
  pub once : AllDiffer (map (λ (c : Conn). c.pin) joined.conns)
  pub pins : (pin : List ℕ) → Contains (pins_of kind) pin ↔ Contains (map (λ (c : Conn). c.pin) joined.conns) pin

-- header names differ, each has one direction, nothing else has one, and each instance is of a cell
pub record KeepsRules (text : Text) : Type 0 where
  pub header : AllDiffer (header_of text.head)
  pub once : AllDiffer (directed_by text.head text.items)
  pub directed : (x : List ℕ) → Contains (header_of text.head) x ↔ Contains (directed_by text.head text.items) x
  pub cells : All (λ (j : Joined). (kind : CellKind) × IsInstanceOf kind j) (flat_map joined_in text.items)

-- connections without an index
abbrev pub AreWhole : List Conn → Type 0
AreWhole [] = Unit {0}
AreWhole (conn ∷ conns) = (conn.net.index ≡ None) × AreWhole conns

-- items without a range and without an index
abbrev pub IsScalar : Item → Type 0
IsScalar (Declares group) = group.spec.range ≡ None
IsScalar (Joins cell name conns) = AreWhole (all_of conns)

abbrev pub AreScalar : List Item → Type 0
AreScalar [] = Unit {0}
AreScalar (item ∷ items) = IsScalar item × AreScalar items

-- the header has names alone, and no item has a range or an index
pub record IsPlain (text : Text) : Type 0 where
  pub header : (groups : Row (Group Direction)) → text.head.ports ≢ Some (Ansi groups)
  pub items : AreScalar text.items
