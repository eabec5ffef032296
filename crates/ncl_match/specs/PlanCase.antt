-- How far the functions of the nets of a plan are made.
use Rattle.std.specs.Prelude.{◌≡◌, ℕ, List, Bool, true, Some, Contains, slice_get}
use Rattle.ncl_shape.specs.Nets.{Nets}
use Rattle.ncl_space.specs.Space.{SpaceData, with_tables}
use Rattle.ncl_match.specs.declared.pair.Pair.{Pair}
use Rattle.ncl_match.specs.declared.planning.DataCell.{DataCell}
use Rattle.ncl_match.specs.Pairs.{HasFunction}
use Rattle.ncl_match.specs.Plan.{is_marked, is_on, IsEvaluated, IsKnown, plan_tables, pair_at}
use Rattle.ncl_match.specs.Turns.{gathered}

-- values for the nets of a plan, which the marked inputs have at first; and what a marked cell reads is marked
pub record IsCase (s : SpaceData) (plan : List DataCell) (marks : List Bool) (pairs : List Pair) (inputs : List ℕ) (v : List Bool → Nets) : Type 0 where
  pub evaluated : IsEvaluated s.width plan inputs v
  pub closed : (k : ℕ) (e : DataCell) (net : ℕ) → slice_get plan k ≡ Some e → is_marked marks e.out.0 ≡ true → is_on e.ins.items net ≡ true → is_marked marks net ≡ true
  pub have : (net : ℕ) → Contains inputs net → is_marked marks net ≡ true → HasFunction s (pair_at pairs net) (λ word. v word net)

-- the first cells are done: exactly their tables came, and what is known and marked has its function
pub record AreDone (old now : SpaceData) (plan : List DataCell) (marks : List Bool) (pairs : List Pair) (inputs : List ℕ) (v : List Bool → Nets) (place : ℕ) : Type 0 where
  pub held : now.held ≡ with_tables old (gathered (plan_tables old.width v marks plan) place)
  pub have : (net : ℕ) → IsKnown plan inputs place net → is_marked marks net ≡ true → HasFunction now (pair_at pairs net) (λ word. v word net)
