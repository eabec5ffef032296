-- How a text falls into lines (Berkeley BLIF).
use Rattle.std.specs.Prelude.{ℕ, ◌+◌, ◌-◌, List, [], ◌∷◌, ◌++◌, Bool, false, ◌==◌, if◌then◌else◌, length, map, take, filter, nat_lt}
use Rattle.std.specs.List.{before_first}
use Rattle.std.specs.Str.Lines.{lines}
use Rattle.ncl_base.specs.TextLines.{NumberedText, fields_of}
use Rattle.ncl_blif.specs.Line.{LineData}

-- a line without its comment, which goes from the first # to the line's end
abbrev pub uncommented : List ℕ → List ℕ
uncommented text = before_first (λ b. b == 35) text

-- whether the text ends with \
abbrev pub is_continued : List ℕ → Bool
is_continued [] = false
is_continued (b ∷ []) = b == 92
is_continued (b ∷ c ∷ bs) = is_continued (c ∷ bs)

-- the text with a blank in place of its last byte
abbrev pub blank_at_end : List ℕ → List ℕ
blank_at_end text = take (length text - 1) text ++ 32 ∷ []

-- the lines with a text put before the first of them, which gets that text's number
abbrev pub put_before : NumberedText → List NumberedText → List NumberedText
put_before part [] = part ∷ []
put_before part (line ∷ rest) = record { number = part.number; text = part.text ++ line.text } ∷ rest

-- the lines that these make, the first of which has this number: a line that ends with \ goes on in the
-- next one, with a blank in place of the \
abbrev pub joined : ℕ → List (List ℕ) → List NumberedText
joined number [] = []
joined number (text ∷ texts) =
    if is_continued text
    then put_before (record { number = number; text = blank_at_end text }) (joined (number + 1) texts)
    else record { number = number; text = text } ∷ joined (number + 1) texts

-- the line as fields
abbrev pub in_fields : NumberedText → LineData
in_fields line = record { number = line.number; fields = fields_of line.text }

-- the lines of a text that have fields. Lines end with a line feed, and a carriage return before it is
-- dropped; lines are counted from 1
abbrev pub lines_of : List ℕ → List LineData
lines_of text =
    filter (λ line. nat_lt 0 (length line.fields)) (map in_fields (joined 1 (map uncommented (lines text))))
