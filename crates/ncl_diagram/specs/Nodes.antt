-- Nodes of a reduced ordered decision diagram without doubles (Bryant 1986; Knuth, The Art of Computer
-- Programming 4A, 7.1.4), and the functions of places. Places 0 and 1 are the constants, and place k + 2 is
-- node k. The level of a place is the first bit that its function reads.
use Rattle.std.specs.Prelude.{◌&&◌, ◌≡◌, ◌≢◌, ℕ, zero, suc, ◌+◌, ◌-◌, ◌<◌, ◌≤◌, List, [], ◌∷◌, ◌++◌, Bool, true, false, nat_eq, length, slice_get, Some, None, Option, if◌then◌else◌}
use Rattle.ncl_diagram.specs.declared.nodes.Node.{Node}

-- the bit that a node reads; n at none
abbrev pub bit_or : ℕ → Option Node → ℕ
bit_or n None = n
bit_or n (Some x) = x.bit

-- the level of a place; n at a constant
abbrev pub level_of : ℕ → List Node → ℕ → ℕ
level_of n nodes zero = n
level_of n nodes (suc zero) = n
level_of n nodes (suc (suc k)) = bit_or n (slice_get nodes k)

-- whether two nodes are one
abbrev pub is_node : Node → Node → Bool
is_node x y = nat_eq x.bit y.bit && (nat_eq x.low.place y.low.place && nat_eq x.high.place y.high.place)

-- the node at a place
abbrev pub node_at : List Node → ℕ → Option Node
node_at nodes zero = None
node_at nodes (suc zero) = None
node_at nodes (suc (suc k)) = slice_get nodes k

-- the place of a constant
abbrev pub constant_place : Bool → ℕ
constant_place false = 0
constant_place true = 1

-- where a place leads at a level: from a node at that level to one of its children, else to the place itself
abbrev pub child : ℕ → Bool → ℕ → Option Node → ℕ
child level b place None = place
child level true place (Some x) = if nat_eq x.bit level then x.high.place else place
child level false place (Some x) = if nat_eq x.bit level then x.low.place else place

-- the same of a place among nodes
abbrev pub branch : List Node → ℕ → Bool → ℕ → ℕ
branch nodes level b zero = zero
branch nodes level b (suc zero) = 1
branch nodes level b (suc (suc k)) = child level b (suc (suc k)) (slice_get nodes k)

-- the table of a place as a function of the m bits from a level on
abbrev pub table_from : List Node → ℕ → ℕ → ℕ → List Bool
table_from nodes zero level place = nat_eq place 1 ∷ []
table_from nodes (suc m) level place =
    table_from nodes m (level + 1) (branch nodes level false place) ++ table_from nodes m (level + 1) (branch nodes level true place)

-- the nodes are ordered (a child reads a later bit), reduced (the children of a node differ) and without
-- doubles, and each child stands before its node
pub record IsCanonical (n : ℕ) (nodes : List Node) : Type 0 where
  pub bits : (k : ℕ) (x : Node) → slice_get nodes k ≡ Some x → x.bit < n
  pub low : (k : ℕ) (x : Node) → slice_get nodes k ≡ Some x → x.bit < level_of n nodes x.low.place
  pub high : (k : ℕ) (x : Node) → slice_get nodes k ≡ Some x → x.bit < level_of n nodes x.high.place
  pub reduced : (k : ℕ) (x : Node) → slice_get nodes k ≡ Some x → x.low.place ≢ x.high.place
  pub single : (j k : ℕ) (x : Node) → slice_get nodes j ≡ Some x → slice_get nodes k ≡ Some x → j ≡ k
  pub before : (k : ℕ) (x : Node) → slice_get nodes k ≡ Some x → (x.low.place < k + 2) × (x.high.place < k + 2)

-- the bead of node k: its table as a function of the bits from its own on
abbrev pub bead_of : ℕ → List Node → ℕ → Node → List Bool
bead_of n nodes k x = table_from nodes (n - x.bit) x.bit (suc (suc k))

-- the nodes that were there stand where they stood
pub record Grown (old new : List Node) : Type 0 where
  pub longer : length old ≤ length new
  pub kept : (k : ℕ) (x : Node) → slice_get old k ≡ Some x → slice_get new k ≡ Some x
