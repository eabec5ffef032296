-- The names of the rails of bits.
use Rattle.std.specs.Prelude.{List, ℕ, [], ◌∷◌, ◌++◌, Contains}
use Rattle.std.specs.List.{flat_map}
use Rattle.ncl_netlist.specs.declared.parts.NamePair.{NamePair}

-- the two names of a bit, rail 0 before rail 1
abbrev pub pair_list : NamePair → List (List ℕ)
pair_list pair = pair.zero ∷ pair.one ∷ []

-- the names of the nets of some bits
abbrev pub pair_names : List NamePair → List (List ℕ)
pair_names pairs = flat_map pair_list pairs

-- no name begins with the prefix
abbrev pub IsFreeOf : List ℕ → List (List ℕ) → Type 0
IsFreeOf prefix names = (rest : List ℕ) → Contains names (prefix ++ rest) → ⊥
