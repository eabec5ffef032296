-- The names within a compiled netlist. They number banks, stages and bits from 1, in three digits, so that names ascend
-- as the numbers do; a bank and the stage after it have one number. Inner rails begin with `w`, roots with `a`, and what
-- banks and stages name themselves with `b` and `s`. Here all places are counted from 0.
use Rattle.std.specs.Prelude.{ℕ, zero, suc, ◌+◌, ◌/◌, ◌%◌, ◌==◌, List, [], ◌∷◌, ◌++◌, map, codes, if◌then◌else◌}
use Rattle.std.specs.List.{range_with_len}
use Rattle.ncl_netlist.specs.declared.parts.NamePair.{NamePair}
use Rattle.ncl_compile.specs.Ports.{output_pairs}

-- the last three decimal digits of a number, leading zeros kept
abbrev pub three_digits : ℕ → List ℕ
three_digits number = (48 + number / 100 % 10) ∷ (48 + number / 10 % 10) ∷ (48 + number % 10) ∷ []

-- a letter and the number of what stands at a place, as `b001` for the first bank
abbrev pub numbered : ℕ → ℕ → List ℕ
numbered letter place = letter ∷ three_digits (place + 1)

-- what the names in a bank begin with, and those in the stage after it
abbrev pub bank_prefix : ℕ → List ℕ
bank_prefix = numbered 98

abbrev pub stage_prefix : ℕ → List ℕ
stage_prefix = numbered 115

-- the rails of a bit that a bank keeps which is not the last
abbrev pub inner_pair : ℕ → ℕ → NamePair
inner_pair bank bit = record {
  zero = numbered 119 bank ++ (numbered 98 bit ++ codes "_0");
  one = numbered 119 bank ++ (numbered 98 bit ++ codes "_1");
}

abbrev pub inner_pairs : ℕ → ℕ → List NamePair
inner_pairs bank width = map (inner_pair bank) (range_with_len 0 width)

-- the rails that a bank drives, where the last bank has the place `last`
abbrev pub pairs_driven : ℕ → ℕ → ℕ → List NamePair
pairs_driven last bank width = if bank == last then output_pairs width else inner_pairs bank width

-- the root of a bank: `ko` is that of the first
abbrev pub root_name : ℕ → List ℕ
root_name zero = codes "ko"
root_name (suc bank) = numbered 97 (suc bank)

-- what requests a bank: the root of the next, and `ki` the last
abbrev pub request_name : ℕ → ℕ → List ℕ
request_name last bank = if bank == last then codes "ki" else root_name (suc bank)
