-- Vectors, their bits, and what was said of names.
use Rattle.std.specs.Prelude.{◌≡◌, ℕ, zero, suc, ◌+◌, ◌-◌, ◌≤◌, ◌<◌, ◌⊎◌, List, [], ◌∷◌, ◌++◌, length, codes, decimal, nat_le, if◌then◌else◌, Option, Some, None}
use Rattle.std.specs.Str.Parse.{digits_value}
use Rattle.ncl_reader.specs.declared.span.Span.{Span}
use Rattle.ncl_reader.specs.Lexemes.{Lexeme, Name}
use Rattle.ncl_reader.specs.Grammar.{Range}
use Rattle.ncl_reader.specs.Forms.{IsDeclaring, IsAtNet}

-- the numbers of a range
abbrev pub span_of : Range → Span
span_of range = record { first = digits_value 10 range.first; last = digits_value 10 range.last }

-- the number of bits
abbrev pub width : Span → ℕ
width span = (span.first - span.last) + (span.last - span.first) + 1

abbrev pub range_width : Option Range → ℕ
range_width None = 0
range_width (Some range) = width (span_of range)

-- a number of a bit
abbrev pub Covers : Span → ℕ → Type 0
Covers span k = ((span.first ≤ k) × (k ≤ span.last)) ⊎ ((span.last ≤ k) × (k ≤ span.first))

-- the name of a bit
abbrev pub bit_name : List ℕ → ℕ → List ℕ
bit_name name k = name ++ (codes "[" ++ (decimal k ++ codes "]"))

-- this many numbers from one on
abbrev pub up_from : ℕ → ℕ → List ℕ
up_from k zero = []
up_from k (suc n) = k ∷ up_from (k + 1) n

-- this many numbers from one down
abbrev pub down_from : ℕ → ℕ → List ℕ
down_from k zero = []
down_from k (suc n) = k ∷ down_from (k - 1) n

-- the numbers of the bits, from the first to the last
abbrev pub numbers_of : Span → List ℕ
numbers_of span = if nat_le span.first span.last then up_from span.first (width span) else down_from span.first (width span)

-- a number that is refused: it has more than five digits, or its value is over 65,535
abbrev pub IsTooLarge : List ℕ → Type 0
IsTooLarge digits = (5 < length digits) ⊎ (65535 < digits_value 10 digits)

-- the most bits of a vector, and of all vectors among the ports
abbrev pub MOST_VECTOR_BITS : ℕ
MOST_VECTOR_BITS = 1024

abbrev pub MOST_PORT_BITS : ℕ
MOST_PORT_BITS = 65536

-- the name stands
abbrev pub Stands : List Lexeme → List ℕ → Type 0
Stands before x = (front : List Lexeme) × (rest : List Lexeme) × (before ≡ front ++ Name x ∷ rest)

-- the name is declared, with this range or with none
abbrev pub IsDeclared : List Lexeme → List ℕ → Option Range → Type 0
IsDeclared before x range =
    (front : List Lexeme) × (rest : List Lexeme) × (before ≡ front ++ Name x ∷ rest) × IsDeclaring front range

-- a connection uses the name
abbrev pub IsUsed : List Lexeme → List ℕ → Type 0
IsUsed before x = (front : List Lexeme) × (rest : List Lexeme) × (before ≡ front ++ Name x ∷ rest) × IsAtNet front

-- the name is that of a vector with this range
abbrev pub IsVector : List Lexeme → List ℕ → Range → Type 0
IsVector before x range = IsDeclared before x (Some range)

-- a name that a declared vector's bit has
abbrev pub IsBit : List Lexeme → List ℕ → Type 0
IsBit before x =
    (vector : List ℕ) × (range : Range) × (k : ℕ) × (x ≡ bit_name vector k) × IsVector before vector range
    × Covers (span_of range) k

-- no name stands that a declared vector's bit has
abbrev pub IsClear : List Lexeme → Type 0
IsClear xs =
    (vector : List ℕ) (range : Range) (k : ℕ) → IsVector xs vector range → Covers (span_of range) k → ¬ Stands xs (bit_name vector k)
