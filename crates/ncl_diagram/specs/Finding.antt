-- What an operation finds: the node at its least bit, its answer, and the beads that come with it.
use Rattle.std.specs.Prelude.{◌≡◌, ◌≢◌, ℕ, ◌+◌, ◌<◌, ◌≤◌, List, Bool, true, false, length, slice_get, Some}
use Rattle.ncl_gates.specs.declared.kind.Kind.{Kind}
use Rattle.ncl_space.specs.Beads.{beads_of, is_bead}
use Rattle.ncl_diagram.specs.declared.nodes.Node.{Node}
use Rattle.ncl_diagram.specs.Nodes.{IsCanonical, Grown, bead_of, branch, level_of, table_from}
use Rattle.ncl_diagram.specs.Operands.{Above, gate_from}

-- a place leads to two others at a level, and reads no bit before it
pub record Leads (n : ℕ) (nodes : List Node) (level r x y : ℕ) : Type 0 where
  pub there : r < length nodes + 2
  pub later : level ≤ level_of n nodes r
  pub low : branch nodes level false r ≡ x
  pub high : branch nodes level true r ≡ y

-- a node is found or added, or neither: one that came is this one, and its children differ
pub record Joins (n : ℕ) (old new : List Node) (bit x y : ℕ) : Type 0 where
  pub canonical : IsCanonical n new
  pub grown : Grown old new
  pub came : (k : ℕ) (z : Node) → length old ≤ k → slice_get new k ≡ Some z → (z.bit ≡ bit) × (z.low.place ≡ x) × (z.high.place ≡ y) × (x ≢ y)

-- the node isn't there, though its children differ
pub record HasNoRoom (n : ℕ) (old : List Node) (bit x y : ℕ) : Type 0 where
  pub apart : x ≢ y
  pub absent : (k : ℕ) (z : Node) → slice_get old k ≡ Some z → z.bit ≡ bit → z.low.place ≡ x → z.high.place ≡ y → ⊥

-- a place is the answer: at each level that no operand reads before, it reads no bit before either, and has
-- the gate's table
pub record IsAnswer (n : ℕ) (kind : Kind) (nodes : List Node) (ps : List ℕ) (r : ℕ) : Type 0 where
  pub there : r < length nodes + 2
  pub later : (level : ℕ) → level ≤ n → Above n nodes level ps → level ≤ level_of n nodes r
  pub table : (m level : ℕ) → level + m ≡ n → Above n nodes level ps → table_from nodes m level r ≡ gate_from kind nodes m level ps

-- a table is a bead of the gate's table, at each level that no operand reads before
abbrev pub IsBeadOf : ℕ → Kind → List Node → List ℕ → List Bool → Type 0
IsBeadOf n kind nodes ps t = (m level : ℕ) → level + m ≡ n → Above n nodes level ps → is_bead (beads_of m (gate_from kind nodes m level ps)) t ≡ true

-- the nodes from one number to another have beads of the gate's table
abbrev pub AddsBeads : ℕ → Kind → ℕ → ℕ → List Node → List ℕ → Type 0
AddsBeads n kind from to nodes ps = (k : ℕ) (x : Node) → from ≤ k → k < to → slice_get nodes k ≡ Some x → IsBeadOf n kind nodes ps (bead_of n nodes k x)

-- some bead of the gate's table is no node's
abbrev pub Lacks : ℕ → Kind → List Node → List ℕ → Type 0
Lacks n kind nodes ps = (t : List Bool) × IsBeadOf n kind nodes ps t × ((k : ℕ) (x : Node) → slice_get nodes k ≡ Some x → bead_of n nodes k x ≢ t)
