-- The operands of an operation, as a list of places, and where it needs no node to be read.
use Rattle.std.specs.Prelude.{◌||◌, not, ◌⊎◌, ◌≡◌, ℕ, ◌+◌, ⊤, map, ◌<◌, ◌≤◌, List, [], ◌∷◌, Bool, true, false, nat_eq, length, slice_index_or}
use Rattle.std.specs.List.{list_any, list_all}
use Rattle.ncl_gates.specs.declared.kind.Kind.{Kind}
use Rattle.ncl_gates.specs.Gate.{set_of}
use Rattle.ncl_space.specs.Functions.{gate_table}
use Rattle.ncl_diagram.specs.declared.nodes.Node.{Node}
use Rattle.ncl_diagram.specs.Nodes.{level_of, table_from}

-- no place reads a bit before the level
abbrev pub Above : ℕ → List Node → ℕ → List ℕ → Type 0
Above n nodes level [] = ⊤
Above n nodes level (p ∷ ps) = (level ≤ level_of n nodes p) × Above n nodes level ps

-- each place is there
abbrev pub There : List Node → List ℕ → Type 0
There nodes [] = ⊤
There nodes (p ∷ ps) = (p < length nodes + 2) × There nodes ps

-- the gate's table of the operands, as a function of the m bits from a level on
abbrev pub gate_from : Kind → List Node → ℕ → ℕ → List ℕ → List Bool
gate_from kind nodes m level ps = gate_table m kind (map (table_from nodes m level) ps)

-- the level is the least bit that some operand reads
pub record Least (n : ℕ) (nodes : List Node) (level : ℕ) (ps : List ℕ) : Type 0 where
  pub bit : level < n
  pub above : Above n nodes level ps
  pub least : (l : ℕ) → Above n nodes l ps → l ≤ level

-- a place is a constant or this one
abbrev pub only_one : ℕ → ℕ → Bool
only_one r p = nat_eq p 0 || (nat_eq p 1 || nat_eq p r)

-- the answer needs no reading: with operands that aren't 0 taken as 1 the gate is 0; with operands that
-- aren't 1 taken as 0 it is 1; or all that aren't constants are one
abbrev pub IsStop : Kind → List ℕ → ℕ → Type 0
IsStop kind ps r =
    ((r ≡ 0) × (set_of kind (map (λ p. not (nat_eq p 0)) ps) ≡ false))
    ⊎ ((r ≡ 1) × (set_of kind (map (λ p. nat_eq p 1) ps) ≡ true))
    ⊎ ((set_of kind (map (λ p. not (nat_eq p 0)) ps) ≡ true) × (set_of kind (map (λ p. nat_eq p 1) ps) ≡ false) × (list_all (only_one r) ps ≡ true) × (list_any (nat_eq r) ps ≡ true))

-- the second list is the first, filled up with the constant 0
pub record IsFilled (ps qs : List ℕ) : Type 0 where
  pub same : (k : ℕ) → slice_index_or qs k 0 ≡ slice_index_or ps k 0
