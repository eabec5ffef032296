-- The words of numbers.
use Rattle.std.specs.Prelude.{ℕ, zero, suc, ◌/◌, ◌%◌, nat_eq, List, [], ◌∷◌, Bool}

-- the word of so many bits of a number: bit k of it is bit k of the number
abbrev pub word_of : ℕ → ℕ → List Bool
word_of zero number = []
word_of (suc n) number = nat_eq (number % 2) 1 ∷ word_of n (number / 2)
