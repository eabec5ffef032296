-- The words that are offered to an adder, and those that it delivers.
use Rattle.std.specs.Prelude.{ℕ, ◌+◌, ◌*◌, ◌/◌, ◌%◌, ◌^◌, ◌==◌, List, [], ◌∷◌, Bool, map}
use Rattle.std.specs.List.{range_with_len, flat_map}

-- the bit of a number at a place, from the least significant, 0
abbrev pub bit_of : ℕ → ℕ → Bool
bit_of number place = number / 2 ^ place % 2 == 1

-- so many bits of two numbers in turn, the least significant first
abbrev pub in_turn : ℕ → ℕ → ℕ → List Bool
in_turn bits a b = flat_map (λ place. bit_of a place ∷ bit_of b place ∷ []) (range_with_len 0 bits)

-- a number of one bit more: that bit, which is the carry, and then the others, the least significant first
abbrev pub carry_and_sums : ℕ → ℕ → List Bool
carry_and_sums bits number = bit_of number bits ∷ map (bit_of number) (range_with_len 0 bits)

-- the two numbers that the demo offers at a place, from 0, and their word
abbrev pub first_number : ℕ → ℕ → ℕ
first_number bits place = (5 * place + 3) % 2 ^ bits

abbrev pub second_number : ℕ → ℕ → ℕ
second_number bits place = (2 * place + 1) % 2 ^ bits

abbrev pub demo_word : ℕ → ℕ → List Bool
demo_word bits place = in_turn bits (first_number bits place) (second_number bits place)

-- the eight words of the demo
unfoldable pub demo_words : ℕ → List (List Bool)
demo_words bits = map (demo_word bits) (range_with_len 0 8)
