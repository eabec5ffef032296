-- The identifier codes of variables (IEEE 1364-2005, 18.2.1): the numbers of nets in base 94, the least digit first, with
-- the printing characters from `!` (33) to `~` (126) as digits.
use Rattle.std.specs.Prelude.{ℕ, zero, suc, ◌+◌, ◌/◌, ◌%◌, List, [], ◌∷◌}

-- the characters for what is left of a number, at most so many
abbrev pub characters_left : ℕ → ℕ → List ℕ
characters_left most zero = []
characters_left zero (suc left) = []
characters_left (suc most) (suc left) = (33 + (suc left) % 94) ∷ characters_left most ((suc left) / 94)

-- the code of the net with a number, counted from 0
abbrev pub identifier_code : ℕ → List ℕ
identifier_code number = (33 + number % 94) ∷ characters_left number (number / 94)
