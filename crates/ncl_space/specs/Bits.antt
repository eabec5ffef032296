-- Words of bits of numbers, the first the most significant.
use Rattle.std.specs.Prelude.{ℕ, zero, suc, Bool, List, [], ◌∷◌}
use Rattle.ncl_gates.specs.Bits.{is_set}

-- the word of n bits whose bits, the last one first, are those of a number
abbrev pub word_of : ℕ → ℕ → List Bool
word_of zero number = []
word_of (suc n) number = is_set number n ∷ word_of n number
