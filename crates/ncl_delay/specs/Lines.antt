-- The lines of a file of delays or of words.
use Rattle.std.specs.Prelude.{ℕ, ◌+◌, List, [], ◌∷◌, Bool, false, not, ◌||◌, ◌==◌, if◌then◌else◌, map, filter, reverse}
use Rattle.std.specs.List.{slice_split, enumerate_from}
use Rattle.ncl_base.specs.TextLines.{is_blank, NumberedText}

-- whether a byte ends a line: a line feed
abbrev pub is_feed : ℕ → Bool
is_feed b = b == 10

-- whether a byte is dropped at the ends of a line: a blank, a tab or a carriage return
abbrev pub is_space : ℕ → Bool
is_space b = is_blank b || b == 13

-- a text from its first byte on that is no space
abbrev pub from_first : List ℕ → List ℕ
from_first [] = []
from_first (b ∷ bs) = if is_space b then from_first bs else b ∷ bs

-- a text without spaces at its ends: from its first other byte on, and the same read backwards
abbrev pub trimmed : List ℕ → List ℕ
trimmed text = reverse (from_first (reverse (from_first text)))

-- whether a line says something: it isn't empty, and no remark, which begins with #
abbrev pub tells : List ℕ → Bool
tells [] = false
tells (b ∷ bs) = not (b == 35)

-- the line at a place, which counts from 0, with its number, which counts from 1
abbrev pub numbered : ℕ × List ℕ → NumberedText
numbered line = record { number = line.0 + 1; text = trimmed line.1 }

-- the lines of a text that say something, with their numbers. What stands after the last line feed is a line
-- too, which says nothing where it is empty
abbrev pub told_lines : List ℕ → List NumberedText
told_lines text = filter (λ line. tells line.text) (map numbered (enumerate_from 0 (slice_split is_feed text)))
