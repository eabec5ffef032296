-- What a value change dump says of a variable at a time (IEEE 1364-2005, 18.2). It is said of any text, whatever wrote it.
use Rattle.std.specs.Prelude.{ℕ, ◌==◌, nat_lt, Bool, true, false, not, ◌&&◌, List, [], ◌∷◌, ◌++◌, Option, Some, None, if◌then◌else◌, nat_eq}
use Rattle.std.specs.List.{take_while}
use Rattle.std.specs.Str.Parse.{digits_value}

-- the lines of a text, each ended by a line feed, where some bytes of the first are read already; what no line feed ends
-- is no line
abbrev pub lines_from : List ℕ → List ℕ → List (List ℕ)
lines_from read [] = []
lines_from read (byte ∷ text) = if byte == 10 then read ∷ lines_from [] text else lines_from (read ++ byte ∷ []) text

abbrev pub lines_of : List ℕ → List (List ℕ)
lines_of text = lines_from [] text

-- the time that a line tells, where it begins with `#` (35)
abbrev pub time_of : List ℕ → Option ℕ
time_of [] = None
time_of (first ∷ rest) = if first == 35 then Some (digits_value 10 rest) else None

-- a time was told, and it is later than this
abbrev pub is_after : ℕ → Option ℕ → Bool
is_after time None = false
is_after time (Some told) = nat_lt time told

-- a time was told
abbrev pub is_time : Option ℕ → Bool
is_time None = false
is_time (Some told) = true

-- the line tells a later time
abbrev pub is_later : ℕ → List ℕ → Bool
is_later time l = is_after time (time_of l)

-- two lines have the same bytes
abbrev pub is_line : List ℕ → List ℕ → Bool
is_line [] [] = true
is_line [] (y ∷ ys) = false
is_line (x ∷ xs) [] = false
is_line (x ∷ xs) (y ∷ ys) = nat_eq x y && is_line xs ys

-- the value that is known of a code after a line: a line `0CODE` or `1CODE` tells it, and another leaves it as it was
abbrev pub told : List ℕ → Option Bool → List ℕ → Option Bool
told code known l = if is_line l (48 ∷ code) then Some false else if is_line l (49 ∷ code) then Some true else known

-- and after some lines
abbrev pub told_by : List ℕ → Option Bool → List (List ℕ) → Option Bool
told_by code known [] = known
told_by code known (l ∷ ls) = told_by code (told code known l) ls

-- the lines from the first that tells a time
abbrev pub from_time : List (List ℕ) → List (List ℕ)
from_time [] = []
from_time (l ∷ ls) = if is_time (time_of l) then l ∷ ls else from_time ls

-- the level of a code at a time: the value that the last line of the code tells that stands after the line of a time, and
-- before every line of a later time
abbrev pub level : List ℕ → List ℕ → ℕ → Option Bool
level text code time = told_by code None (from_time (take_while (λ l. not (is_later time l)) (lines_of text)))
