-- The functions of a word that a space is asked for, as tables: constants, bits and gates; and the least
-- word at which a function has a value.
use Rattle.std.specs.Prelude.{ℕ, List, Bool, true, false, Option, map, not, slice_index_or}
use Rattle.std.specs.List.{find}
use Rattle.ncl_gates.specs.declared.kind.Kind.{Kind}
use Rattle.ncl_gates.specs.Gate.{set_of}
use Rattle.ncl_space.specs.Table.{words, table_of, word_number}

-- the value of a table at a word
abbrev pub at : List Bool → List Bool → Bool
at table word = slice_index_or table (word_number word) false

-- the function that has this value everywhere
abbrev pub constant_table : ℕ → Bool → List Bool
constant_table n value = table_of (words n) (λ word. value)

-- whether a bit has this value
abbrev pub is_value : Bool → Bool → Bool
is_value true bit = bit
is_value false bit = not bit

-- the function that is 1 where a bit of the word has this value
abbrev pub rail_table : ℕ → ℕ → Bool → List Bool
rail_table n bit value = table_of (words n) (λ word. is_value value (slice_index_or word bit false))

-- the set function of a gate on functions, word by word
abbrev pub gate_table : ℕ → Kind → List (List Bool) → List Bool
gate_table n kind tables = table_of (words n) (λ word. set_of kind (map (λ table. at table word) tables))

-- the least word at which a table has a value, if there is one
abbrev pub least : Bool → ℕ → List Bool → Option (List Bool)
least value n table = find (λ word. is_value value (at table word)) (words n)
