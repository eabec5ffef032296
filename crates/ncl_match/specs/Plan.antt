-- The data cells of a pipeline in its order, the nets that a net is reached from, and the tables that they make.
use Rattle.std.specs.Prelude.{◌≡◌, ℕ, ◌<◌, ◌≤◌, nat_eq, List, [], ◌∷◌, Bool, true, false, length, map, All, Option, Some, None, slice_get, slice_index_or, if◌then◌else◌, Contains, ◌⊎◌}
use Rattle.std.specs.List.{list_any}
use Rattle.ncl_gates.specs.declared.kind.Kind.{Kind}
use Rattle.ncl_gates.specs.Gate.{arity_of, set_of}
use Rattle.ncl_netlist.specs.declared.ids.NetId.{NetId}
use Rattle.ncl_shape.specs.Nets.{Nets}
use Rattle.ncl_match.specs.declared.planning.DataCell.{DataCell}
use Rattle.ncl_match.specs.declared.pair.Pair.{Pair}
use Rattle.ncl_match.specs.Pairs.{both_tables}

-- the cell reads the net
abbrev pub is_on : List NetId → ℕ → Bool
is_on ins net = list_any (λ (x : NetId). nat_eq x.0 net) ins

-- the net is marked
abbrev pub is_marked : List Bool → ℕ → Bool
is_marked marks net = slice_index_or marks net false

-- the root is reached from the net through cells of the plan
pub data Reaches (plan : List DataCell) (root : ℕ) : ℕ → Type 0 where
  itself : Reaches plan root root
  reads : (k : ℕ) (e : DataCell) (net : ℕ) → slice_get plan k ≡ Some e → is_on e.ins.items net ≡ true → Reaches plan root e.out.0 → Reaches plan root net

-- the nets are numbers below a bound, and no cell reads what a cell drives that doesn't stand before it
pub record IsOrdered (plan : List DataCell) (nets : ℕ) : Type 0 where
  pub outs : (k : ℕ) (e : DataCell) → slice_get plan k ≡ Some e → e.out.0 < nets
  pub ins : (k : ℕ) (e : DataCell) → slice_get plan k ≡ Some e → All (λ (x : NetId). x.0 < nets) e.ins.items
  pub before : (j k : ℕ) (e f : DataCell) → slice_get plan j ≡ Some e → slice_get plan k ≡ Some f → j ≤ k → is_on e.ins.items f.out.0 ≡ false

-- which nets are marked once the cells from a place on are looked at
pub record AreMarks (plan : List DataCell) (nets root : ℕ) (marks : List Bool) (from : ℕ) : Type 0 where
  pub many : length marks ≡ nets
  pub root_too : is_marked marks root ≡ true
  pub reads : (k : ℕ) (e : DataCell) (net : ℕ) → from ≤ k → slice_get plan k ≡ Some e → is_marked marks e.out.0 ≡ true → is_on e.ins.items net ≡ true → is_marked marks net ≡ true
  pub reach : (net : ℕ) → is_marked marks net ≡ true → Reaches plan root net

-- the value on pin A
abbrev pub first_value : List Bool → Bool
first_value [] = false
first_value (a ∷ others) = a

-- what a cell makes of what it reads: a gate its set function, a register cell its A net
abbrev pub made_of : Option Kind → List Bool → Bool
made_of None values = first_value values
made_of (Some kind) values = set_of kind values

-- the cell has as many pins as its gate, or one
abbrev pub pins_of : Option Kind → ℕ
pins_of None = 1
pins_of (Some kind) = arity_of kind

-- the cell at a place drives the net
pub record Drives (plan : List DataCell) (k net : ℕ) : Type 0 where
  pub cell : DataCell
  pub at : slice_get plan k ≡ Some cell
  pub out : cell.out.0 ≡ net

-- the net is one of the inputs, or one of the first cells drives it
abbrev pub IsKnown : List DataCell → List ℕ → ℕ → ℕ → Type 0
IsKnown plan inputs place net = Contains inputs net ⊎ ((k : ℕ) × (k < place) × Drives plan k net)

-- values of nets that give each net of the plan what its cell makes of what it reads, where each cell has the pins of its
-- kind and reads inputs and what cells before it drive, no net is driven twice, and no input is driven
pub record IsEvaluated (n : ℕ) (plan : List DataCell) (inputs : List ℕ) (v : List Bool → Nets) : Type 0 where
  pub gives : (k : ℕ) (e : DataCell) (word : List Bool) → slice_get plan k ≡ Some e → length word ≡ n → v word e.out.0 ≡ made_of e.kind (map (λ (x : NetId). v word x.0) e.ins.items)
  pub in_order : (k : ℕ) (e : DataCell) → slice_get plan k ≡ Some e → All (λ (x : NetId). IsKnown plan inputs k x.0) e.ins.items
  pub once : (j k net : ℕ) → Drives plan j net → Drives plan k net → j ≡ k
  pub apart : (k net : ℕ) → Contains inputs net → Drives plan k net → ⊥

-- what the cell at a place makes where its net is marked: the table of its net, and its complement
abbrev pub cell_tables : ℕ → (List Bool → Nets) → List Bool → Option DataCell → List (List Bool)
cell_tables n v marks None = []
cell_tables n v marks (Some e) = if is_marked marks e.out.0 then both_tables n (λ word. v word e.out.0) else []

abbrev pub plan_tables : ℕ → (List Bool → Nets) → List Bool → List DataCell → ℕ → List (List Bool)
plan_tables n v marks plan k = cell_tables n v marks (slice_get plan k)

-- each cell has as many pins as its gate, or one
abbrev pub FitPins : List DataCell → Type 0
FitPins plan = (k : ℕ) (e : DataCell) → slice_get plan k ≡ Some e → length e.ins.items ≡ pins_of e.kind

-- the pair at a net
abbrev pub pair_at : List Pair → ℕ → Pair
pair_at pairs net = slice_index_or pairs net (record { one = record { place = 0 }; zero = record { place = 0 } })
