-- Names of cells and nets that are made: a prefix, a letter, and digits of one number for all.
use Rattle.std.specs.Prelude.{◌≡◌, ℕ, zero, suc, ◌+◌, ◌/◌, ◌%◌, ◌^◌, ◌<◌, ◌≤◌, List, [], ◌∷◌, ◌++◌, Bool, ◌||◌, ◌==◌, nat_lt, IsTrue, length, if◌then◌else◌}
use Rattle.std.specs.List.{list_all}
use Rattle.ncl_token.specs.Bytes.{is_letter, is_digit}

-- a letter, a digit or `_`
abbrev pub is_name_byte : ℕ → Bool
is_name_byte byte = is_letter byte || (is_digit byte || byte == 95)

-- the name is the prefix with one to seven letters, digits or `_` after it
pub record IsPartName (prefix name : List ℕ) : Type 0 where
  pub rest : List ℕ
  pub is : name ≡ prefix ++ rest
  pub some : 0 < length rest
  pub few : length rest ≤ 7
  pub bytes : IsTrue (list_all is_name_byte rest)

-- a digit in base 36: 0 to 9, then a to z
abbrev pub digit_36 : ℕ → ℕ
digit_36 value = if nat_lt value 10 then 48 + value else 87 + value

-- the last so many digits of a number in base 36, leading zeros kept
abbrev pub digits_36 : ℕ → ℕ → List ℕ
digits_36 zero number = []
digits_36 (suc count) number = digit_36 ((number / 36 ^ count) % 36) ∷ digits_36 count number

-- how many numbers have six digits
abbrev pub most_parts : ℕ
most_parts = 36 ^ 6

-- the names of the cell with a number (c is 99), and of its net (n is 110)
abbrev pub cell_name_of : List ℕ → ℕ → List ℕ
cell_name_of prefix number = prefix ++ 99 ∷ digits_36 6 number

abbrev pub net_name_of : List ℕ → ℕ → List ℕ
net_name_of prefix number = prefix ++ 110 ∷ digits_36 6 number
