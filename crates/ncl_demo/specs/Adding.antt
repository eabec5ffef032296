-- What a stage of an adder does with its bits. Stages are counted from 0, and the bits of a number from the
-- least significant, 0.
use Rattle.std.specs.Prelude.{ℕ, ◌+◌, ◌-◌, ◌*◌, ◌%◌, ◌==◌, zero, suc, min, nat_le, Bool, true, false, List, ◌∷◌, ◌++◌, take, drop}
use Rattle.std.specs.List.{slice_index_or}

-- a bit as a number
abbrev pub bit_value : Bool → ℕ
bit_value true = 1
bit_value false = 0

-- how many of three bits are 1
abbrev pub ones_of : Bool → Bool → Bool → ℕ
ones_of c a b = bit_value c + bit_value a + bit_value b

-- the carry of three bits is 1 where two of them are or more, and their sum where one is or all three
abbrev pub carry_of : Bool → Bool → Bool → Bool
carry_of c a b = nat_le 2 (ones_of c a b)

abbrev pub sum_of : Bool → Bool → Bool → Bool
sum_of c a b = ones_of c a b % 2 == 1

-- a carry, and a word whose two bits after so many sums are added: the new carry, the sums, the new sum, and what
-- follows the two bits
abbrev pub added : Bool → ℕ → List Bool → List Bool
added carry sums word =
    let a = slice_index_or word sums false in
    let b = slice_index_or word (sums + 1) false in
    carry_of carry a b ∷ take sums word ++ sum_of carry a b ∷ drop (sums + 2) word

-- what a stage answers to a word. The first has no carry yet, and a later one has it as its first bit
abbrev pub stage_answer : ℕ → List Bool → List Bool
stage_answer zero word = added false 0 word
stage_answer (suc stage) word = added (slice_index_or word 0 false) (suc stage) (drop 1 word)

-- how many bits a stage of an adder takes: the carry, which the first lacks, one sum for each stage before it, and
-- two bits for each stage that is left
abbrev pub bits_in : ℕ → ℕ → ℕ
bits_in bits stage = min stage 1 + stage + 2 * (bits - stage)

-- how many it gives: the carry, the sums and the two bits for each stage after it
abbrev pub bits_out : ℕ → ℕ → ℕ
bits_out bits stage = 1 + (stage + 1) + 2 * (bits - (stage + 1))
