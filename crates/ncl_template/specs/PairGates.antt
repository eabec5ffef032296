-- Gates over two pairs.
use Rattle.std.specs.Prelude.{◌≡◌, List, [], ◌∷◌, ◌++◌, Bool, true, false, map}
use Rattle.ncl_gates.specs.declared.kind.Kind.{Kind}
use Rattle.ncl_gates.specs.declared.kind.Kind.TheVariants.{Th22, Th33w2, ThAnd0, Th24comp}
use Rattle.ncl_netlist.specs.declared.ids.NetId.{NetId}
use Rattle.ncl_shape.specs.declared.rails.Rails.{Rails}
use Rattle.ncl_shape.specs.declared.stage.StageCell.{StageCell}
use Rattle.ncl_template.specs.declared.table.TableRow.{TableRow}

-- the nets of two pairs
pub data Wire : Type 0 where
  A0 : Wire
  A1 : Wire
  B0 : Wire
  B1 : Wire

abbrev pub wire_net : Rails → Rails → Wire → NetId
wire_net a b A0 = a.zero
wire_net a b A1 = a.one
wire_net a b B0 = b.zero
wire_net a b B1 = b.one

-- the gate for a set of words of two bits, given by its test at 00, 01, 10 and 11
abbrev pub two_kind : Bool → Bool → Bool → Bool → Kind
two_kind false false false false = Th22
two_kind true false false false = Th22
two_kind false true false false = Th22
two_kind false false true false = Th22
two_kind false false false true = Th22
two_kind true true false false = Th33w2
two_kind false false true true = Th33w2
two_kind true false true false = Th33w2
two_kind false true false true = Th33w2
two_kind true false false true = Th24comp
two_kind false true true false = Th24comp
two_kind true true true false = ThAnd0
two_kind true true false true = ThAnd0
two_kind true false true true = ThAnd0
two_kind false true true true = ThAnd0
two_kind true true true true = Th24comp

-- and the nets on its pins
abbrev pub two_pins : Bool → Bool → Bool → Bool → List Wire
two_pins false false false false = A0 ∷ A1 ∷ []
two_pins true false false false = A0 ∷ B0 ∷ []
two_pins false true false false = A0 ∷ B1 ∷ []
two_pins false false true false = A1 ∷ B0 ∷ []
two_pins false false false true = A1 ∷ B1 ∷ []
two_pins true true false false = A0 ∷ B0 ∷ B1 ∷ []
two_pins false false true true = A1 ∷ B0 ∷ B1 ∷ []
two_pins true false true false = B0 ∷ A0 ∷ A1 ∷ []
two_pins false true false true = B1 ∷ A0 ∷ A1 ∷ []
two_pins true false false true = A0 ∷ B1 ∷ A1 ∷ B0 ∷ []
two_pins false true true false = A0 ∷ B0 ∷ A1 ∷ B1 ∷ []
two_pins true true true false = A0 ∷ B0 ∷ A1 ∷ B1 ∷ []
two_pins true true false true = A0 ∷ B1 ∷ A1 ∷ B0 ∷ []
two_pins true false true true = A1 ∷ B0 ∷ A0 ∷ B1 ∷ []
two_pins false true true true = A1 ∷ B1 ∷ A0 ∷ B0 ∷ []
two_pins true true true true = A0 ∷ A1 ∷ B0 ∷ B1 ∷ []

-- the gate for a set of words over two pairs: where at most one net of each is high, it is set exactly where a word
-- of the set has both its nets high
pub record IsTwoGate (set : TableRow) (a b : Rails) (c : StageCell) : Type 0 where
  pub kind : c.kind ≡ two_kind set.at_00 set.at_01 set.at_10 set.at_11
  pub ins : c.ins.items ≡ map (wire_net a b) (two_pins set.at_00 set.at_01 set.at_10 set.at_11)

-- one such gate is added, which drives this net
pub record AddsGate (IsSuch : StageCell → Type 0) (before after : List StageCell) (out : NetId) : Type 0 where
  pub cell : StageCell
  pub added : after ≡ before ++ cell ∷ []
  pub is : IsSuch cell
  pub drives : cell.out ≡ out
