-- The ports of a compiled netlist: `i1_0` and `i1_1` for the first input, `ki`, `rst`, `o1_0` and `o1_1` for the first
-- output, `ko`.
use Rattle.std.specs.Prelude.{ℕ, List, [], ◌∷◌, ◌++◌, Bool, true, false, map, codes, decimal, slice_index_or}
use Rattle.std.specs.List.{range_with_len}
use Rattle.ncl_netlist.specs.declared.parts.NamePair.{NamePair}
use Rattle.ncl_netlist.specs.declared.port.Port.{Port}
use Rattle.ncl_netlist.specs.Netlist.{NetlistData}
use Rattle.ncl_shape.specs.declared.rails.Rails.{Rails}
use Rattle.ncl_tree.specs.NamePairs.{pair_names}

-- the names of the rails of the bit of this number, from 1, after a letter
abbrev pub port_pair : List ℕ → ℕ → NamePair
port_pair letter number = record {
  zero = letter ++ (decimal number ++ codes "_0");
  one = letter ++ (decimal number ++ codes "_1");
}

-- the pairs of so many inputs, and of so many outputs
abbrev pub input_pairs : ℕ → List NamePair
input_pairs width = map (port_pair (codes "i")) (range_with_len 1 width)

abbrev pub output_pairs : ℕ → List NamePair
output_pairs width = map (port_pair (codes "o")) (range_with_len 1 width)

-- ports of these names
abbrev pub ports_named : Bool → List (List ℕ) → List Port
ports_named output names = map (λ name. record { name = name; output = output }) names

-- the ports in their order
abbrev pub ports_for : ℕ → ℕ → List Port
ports_for inputs outputs =
    ports_named false (pair_names (input_pairs inputs) ++ codes "ki" ∷ codes "rst" ∷ [])
    ++ ports_named true (pair_names (output_pairs outputs) ++ codes "ko" ∷ [])

-- the names of a pair of rails
abbrev pub names_of_rails : NetlistData → Rails → NamePair
names_of_rails n rails = record { zero = slice_index_or n.nets rails.zero.0 []; one = slice_index_or n.nets rails.one.0 [] }
