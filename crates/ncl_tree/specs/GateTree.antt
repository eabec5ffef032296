-- Trees of gates of one family: disjunctions, or conjunctions (the completion trees of Smith and Di 2009).
use Rattle.std.specs.Prelude.{◌≡◌, ◌+◌, ◌*◌, ◌≤◌, List, [], ◌∷◌, ◌++◌, length}
use Rattle.ncl_gates.specs.declared.kind.Kind.{Kind}
use Rattle.ncl_gates.specs.declared.kind.Kind.TheVariants.{Th12, Th13, Th14, Th22, Th33, Th44}
use Rattle.ncl_gates.specs.Gate.{arity_of}
use Rattle.ncl_netlist.specs.declared.ids.NetId.{NetId}
use Rattle.ncl_shape.specs.declared.stage.StageCell.{StageCell}
use Rattle.ncl_tree.specs.declared.tree.Family.{Family}
use Rattle.ncl_tree.specs.declared.tree.Family.TheVariants.{Any, All}

-- the gates of each family: high where some input is, and where all inputs are
pub data IsOfFamily : Family → Kind → Type 0 where
  any_two : IsOfFamily Any Th12
  any_three : IsOfFamily Any Th13
  any_four : IsOfFamily Any Th14
  all_two : IsOfFamily All Th22
  all_three : IsOfFamily All Th33
  all_four : IsOfFamily All Th44

-- a gate of the family, with a net on each input pin
pub record IsFamilyGate (family : Family) (c : StageCell) : Type 0 where
  pub kind : IsOfFamily family c.kind
  pub arity : length c.ins.items ≡ arity_of c.kind

-- a tree of gates over nets: each gate takes the first nets of the queue, and its output joins the end. The last
-- net that is left is the root
pub data GateTree (family : Family) : List NetId → List StageCell → NetId → Type 0 where
  one : (net : NetId) → GateTree family (net ∷ []) [] net
  more : (c : StageCell) (rest : List NetId) (gates : List StageCell) (root : NetId) → IsFamilyGate family c → GateTree family (rest ++ c.out ∷ []) gates root → GateTree family (c.ins.items ++ rest) (c ∷ gates) root

-- a tree over leaves stands after the gates that there were, with this root: no tree over so many leaves has fewer
-- gates
pub record AddsTree (family : Family) (leaves : List NetId) (before after : List StageCell) (root : NetId) : Type 0 where
  pub made : List StageCell
  pub added : after ≡ before ++ made
  pub is_tree : GateTree family leaves made root
  pub few : 3 * length made ≤ length leaves + 1
