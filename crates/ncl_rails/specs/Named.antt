-- The names of the nets and cells of gates that are laid out.
use Rattle.std.specs.Prelude.{ℕ, ◌+◌, ◌-◌, ◌*◌, ◌<◌, ◌++◌, ◌∷◌, List, [], nat_lt, if◌then◌else◌, length, map, All}
use Rattle.std.specs.List.{slice_index_or}
use Rattle.ncl_gates.specs.declared.cell_kind.CellKind.TheVariants.{Gate}
use Rattle.ncl_netlist.specs.declared.ids.NetId.{NetId}
use Rattle.ncl_netlist.specs.declared.parts.NamePair.{NamePair}
use Rattle.ncl_netlist.specs.declared.parts.PartCell.{PartCell}
use Rattle.ncl_shape.specs.declared.rails.Rails.{Rails}
use Rattle.ncl_shape.specs.declared.stage.StageCell.{StageCell}
use Rattle.ncl_tree.specs.PartNames.{cell_name_of, net_name_of, most_parts}

-- the name of a net: the first nets have these names, and those that follow are named after the gates that drive them
abbrev pub name_of_net : List (List ℕ) → List ℕ → ℕ → List ℕ
name_of_net names prefix net =
    if nat_lt net (length names) then slice_index_or names net [] else net_name_of prefix (net - length names)

-- the names of a pair of nets
abbrev pub name_of_pair : List (List ℕ) → List ℕ → Rails → NamePair
name_of_pair names prefix r =
    record { zero = name_of_net names prefix r.zero.0; one = name_of_net names prefix r.one.0 }

-- a gate, with names in place of the numbers of its nets
abbrev pub part_of_gate : List (List ℕ) → List ℕ → StageCell → PartCell
part_of_gate names prefix c = record {
  kind = Gate c.kind;
  name = cell_name_of prefix c.cell.0;
  pins = map (λ (net : NetId). name_of_net names prefix net.0) (c.ins.items ++ c.out ∷ []);
}

-- beside the nets of so many pairs of names, as many have names as there are made
abbrev pub IsNamed : ℕ → ℕ → Type 0
IsNamed pairs net = net < 2 * pairs + most_parts

-- the number and the nets of a gate have names
pub record CanBeNamed (pairs : ℕ) (c : StageCell) : Type 0 where
  pub cell : c.cell.0 < most_parts
  pub ins : All (λ (net : NetId). IsNamed pairs net.0) c.ins.items
  pub out : IsNamed pairs c.out.0
