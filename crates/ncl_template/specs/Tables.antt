-- Tables of functions of two and of three bits.
use Rattle.std.specs.Prelude.{List, [], ◌∷◌, Bool, true, false, not, if◌then◌else◌}
use Rattle.std.specs.Bool.{beq}
use Rattle.ncl_template.specs.declared.table.TableRow.{TableRow}
use Rattle.ncl_template.specs.declared.table.Table.{Table}

-- the value at a word of two bits
abbrev pub row_value : TableRow → List Bool → Bool
row_value row [] = false
row_value row (x ∷ []) = false
row_value row (x ∷ y ∷ word) = if x then (if y then row.at_11 else row.at_10) else (if y then row.at_01 else row.at_00)

-- a function that is one function of the other bits where the first is 0, and another where it is 1
abbrev pub choice : (List Bool → Bool) → (List Bool → Bool) → List Bool → Bool
choice low high [] = false
choice low high (x ∷ word) = if x then high word else low word

-- whether two functions differ
abbrev pub differs : (List Bool → Bool) → (List Bool → Bool) → List Bool → Bool
differs f g word = not (beq (f word) (g word))

-- the value at a word of three bits
abbrev pub table_value : Table → List Bool → Bool
table_value table word = choice (row_value table.low) (row_value table.high) word

-- the values of a function
abbrev pub row_of : (List Bool → Bool) → TableRow
row_of f = record { at_00 = f (false ∷ false ∷ []); at_01 = f (false ∷ true ∷ []); at_10 = f (true ∷ false ∷ []); at_11 = f (true ∷ true ∷ []) }

abbrev pub table_of : (List Bool → Bool) → Table
table_of f = record { low = row_of (λ word. f (false ∷ word)); high = row_of (λ word. f (true ∷ word)) }

-- the inverse values
abbrev pub inverse_row : TableRow → TableRow
inverse_row row = record { at_00 = not row.at_00; at_01 = not row.at_01; at_10 = not row.at_10; at_11 = not row.at_11 }

-- where two functions differ
abbrev pub difference_row : TableRow → TableRow → TableRow
difference_row a b = record { at_00 = not (beq a.at_00 b.at_00); at_01 = not (beq a.at_01 b.at_01); at_10 = not (beq a.at_10 b.at_10); at_11 = not (beq a.at_11 b.at_11) }

abbrev pub difference_table : Table → Table → Table
difference_table a b = record { low = difference_row a.low b.low; high = difference_row a.high b.high }
