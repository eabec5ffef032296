-- What a call leaves of the nodes that was asked for a function of some table.
use Rattle.std.specs.Prelude.{◌≡◌, ℕ, ◌+◌, ◌<◌, ◌≤◌, Bool, List, length, Result, IfOk, OnOk, IsErrOf}
use Rattle.ncl_space.specs.declared.space.Ref.{Ref}
use Rattle.ncl_space.specs.declared.space.SpaceFault.{SpaceFault}
use Rattle.ncl_space.specs.declared.space.SpaceFault.TheVariants.{Full}
use Rattle.ncl_diagram.specs.declared.nodes.Node.{Node}
use Rattle.ncl_diagram.specs.Nodes.{table_from, IsCanonical, Grown}
use Rattle.ncl_diagram.specs.Holding.{HoldsWith, HoldsOnly, IsTooMuch}

-- the nodes stay a reduced ordered diagram without doubles and no more than the limit; those that were there
-- stay, and only beads of the table come. An answer is there and has the table, and then all its beads are
-- held. Where the limit is the reason that there is none, a bead of the table isn't held though there are as
-- many nodes as the limit
pub record Leaves (n limit : ℕ) (old new : List Node) (made : List Bool) (result : Result Ref SpaceFault) : Type 0 where
  pub canonical : IsCanonical n new
  pub grown : Grown old new
  pub few : length new ≤ limit
  pub live : IfOk result (λ r. r.place < length new + 2)
  pub table : IfOk result (λ r. table_from new n 0 r.place ≡ made)
  pub holds : OnOk result (HoldsWith n old new made)
  pub only : HoldsOnly n old new made
  pub full : IsErrOf result Full → IsTooMuch n new made limit
