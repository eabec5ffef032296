-- The beads that are held: each node has one.
use Rattle.std.specs.Prelude.{◌≡◌, ◌⊎◌, ℕ, suc, List, [], ◌∷◌, Bool, true, length, slice_get, Some}
use Rattle.std.specs.FinSet as set
use Rattle.ncl_space.specs.Beads.{Beads, beads_of, is_bead}
use Rattle.ncl_diagram.specs.declared.nodes.Node.{Node}
use Rattle.ncl_diagram.specs.Nodes.{bead_of}

-- the beads of nodes that stand from a count on
abbrev pub beads_from : ℕ → List Node → ℕ → List Node → List (List Bool)
beads_from n nodes k [] = []
beads_from n nodes k (x ∷ xs) = bead_of n nodes k x ∷ beads_from n nodes (suc k) xs

-- the beads held, as a set
abbrev pub held_of : ℕ → List Node → Beads
held_of n nodes = set.from_list (beads_from n nodes 0 nodes)

-- some node has this bead
abbrev pub Held : ℕ → List Node → List Bool → Type 0
Held n nodes t = (k : ℕ) × (x : Node) × (slice_get nodes k ≡ Some x) × (bead_of n nodes k x ≡ t)

-- what was held is held, and the beads of a table, and nothing else
pub record HoldsWith (n : ℕ) (old new : List Node) (made : List Bool) : Type 0 where
  pub kept : (t : List Bool) → Held n old t → Held n new t
  pub beads : (t : List Bool) → is_bead (beads_of n made) t ≡ true → Held n new t
  pub only : (t : List Bool) → Held n new t → Held n old t ⊎ (is_bead (beads_of n made) t ≡ true)

-- what was held is held, and nothing else but beads of a table
pub record HoldsOnly (n : ℕ) (old new : List Node) (made : List Bool) : Type 0 where
  pub kept : (t : List Bool) → Held n old t → Held n new t
  pub only : (t : List Bool) → Held n new t → Held n old t ⊎ (is_bead (beads_of n made) t ≡ true)

-- a bead of the table isn't held, though there are as many nodes as the limit, each with a bead of its own
pub record IsTooMuch (n : ℕ) (new : List Node) (made : List Bool) (limit : ℕ) : Type 0 where
  pub bead : List Bool
  pub needed : is_bead (beads_of n made) bead ≡ true
  pub lacking : Held n new bead → ⊥
  pub count : length new ≡ limit
  pub distinct : (j k : ℕ) (x y : Node) → slice_get new j ≡ Some x → slice_get new k ≡ Some y → bead_of n new j x ≡ bead_of n new k y → j ≡ k
