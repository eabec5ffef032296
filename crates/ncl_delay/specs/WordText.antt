-- What breaks the lines of a file of words.
use Rattle.std.specs.Prelude.{ℕ, ◌+◌, List, [], ◌∷◌, Bool, ◌||◌, ◌==◌, if◌then◌else◌, Option, Some, None, length, nat_lt}
use Rattle.std.specs.List.{list_all}
use Rattle.std.specs.Option.{option_or}
use Rattle.ncl_base.specs.TextLines.{NumberedText}
use Rattle.ncl_delay.specs.declared.fault.WordsFault.{WordsFault}
use Rattle.ncl_delay.specs.declared.fault.WordsFault.TheVariants.{Syntax, Width, TooMany}
use Rattle.ncl_delay.specs.declared.word_text.TheConstants.{MOST_WORDS}

-- whether a byte is 0 or 1, as a character
abbrev pub is_bit : ℕ → Bool
is_bit b = b == 48 || b == 49

-- what breaks a line that so many words stand before: a byte that is no bit, another width, or too many words
abbrev pub word_fault : ℕ → ℕ → NumberedText → Option WordsFault
word_fault width before line =
    if list_all is_bit line.text
    then (if length line.text == width
    then (if nat_lt before MOST_WORDS then None else Some (TooMany line.number))
    else Some (Width line.number))
    else Some (Syntax line.number)

-- what breaks the first broken line, where so many words stand before these lines
abbrev pub words_fault : ℕ → ℕ → List NumberedText → Option WordsFault
words_fault width before [] = None
words_fault width before (line ∷ lines) =
    option_or (word_fault width before line) (words_fault width (before + 1) lines)
