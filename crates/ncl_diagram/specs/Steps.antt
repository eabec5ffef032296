-- The most steps of an operation, and the keys that it meets.
use Rattle.std.specs.Prelude.{◌≡◌, ◌⊎◌, ℕ, zero, suc, ◌+◌, ◌*◌, Bool, List, [], ◌∷◌, Some, map, slice_get}
use Rattle.ncl_space.specs.Beads.{bead_count}
use Rattle.ncl_space.specs.Space.{SpaceData}
use Rattle.ncl_space.specs.declared.space.Ref.{Ref}
use Rattle.ncl_diagram.specs.declared.memo.Key.{Key}
use Rattle.ncl_diagram.specs.declared.nodes.Node.{Node}
use Rattle.ncl_diagram.specs.Nodes.{branch, table_from}

-- the product of some numbers
abbrev pub product : List ℕ → ℕ
product [] = 1
product (x ∷ xs) = x * product xs

-- the most keys that an operation on some functions meets: at each operand a bead of its table or a constant
abbrev pub operand_bound : SpaceData → List Ref → ℕ
operand_bound s ins = product (map (λ r. bead_count s.width (s.table r ∷ []) + 2) ins)

-- how many places an operand leads to at most: the constant 0 only to itself, another to the nodes of its
-- beads and to the constants
abbrev pub reach_of : ℕ → List Node → ℕ → ℕ
reach_of n nodes zero = 1
reach_of n nodes (suc p) = bead_count n (table_from nodes n 0 (suc p) ∷ []) + 2

-- branches lead from a place to another
pub data Reaches (nodes : List Node) (to : ℕ) : ℕ → Type 0 where
  here : Reaches nodes to to
  along : (level : ℕ) (v : Bool) (from : ℕ) → Reaches nodes to (branch nodes level v from) → Reaches nodes to from

-- they lead from the operands of a key to those of another
pub record ReachesKey (nodes : List Node) (from to : Key) : Type 0 where
  pub a : Reaches nodes to.a.place from.a.place
  pub b : Reaches nodes to.b.place from.b.place
  pub c : Reaches nodes to.c.place from.c.place
  pub d : Reaches nodes to.d.place from.d.place

-- each key was there, or is reached from another
pub record AddsKeys (nodes : List Node) (keys more : List Key) (from : Key) : Type 0 where
  pub added : (i : ℕ) (key : Key) → slice_get more i ≡ Some key → ((j : ℕ) × (slice_get keys j ≡ Some key)) ⊎ ReachesKey nodes from key
