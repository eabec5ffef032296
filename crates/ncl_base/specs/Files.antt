-- Files held by name, counts that stand still at their end, and what one read takes or one write adds.
use Rattle.std.specs.Prelude.{◌≡◌, ℕ, ◌+◌, ◌-◌, ◌^◌, ◌<◌, ◌⊎◌, List, [], ◌∷◌, ◌++◌, length, min, Option, Some, IfSome, if◌then◌else◌}
use Rattle.std.specs.Str.{bytes_eq}

-- held files, each a name and its bytes. Of two files with one name the first counts
abbrev pub Files : Type 0
Files = List (List ℕ × List ℕ)

-- the bytes of the file with the name; an absent name stands for the empty file
abbrev pub bytes_of : Files → List ℕ → List ℕ
bytes_of [] name = []
bytes_of (file ∷ files) name = if bytes_eq file.0 name then file.1 else bytes_of files name

-- a count that is raised by so many, and stands still at 2 ^ 64 - 1
abbrev pub raised : ℕ → ℕ → ℕ
raised count by = min (count + by) (2 ^ 64 - 1)

-- a count of faults is greater than before, or stands at its end
abbrev pub Rose : ℕ → ℕ → Type 0
Rose before now = (before < now) ⊎ (now ≡ 2 ^ 64 - 1)

-- where the rest of a file is told: these bytes were its first and are taken from it, and they are none
-- only where nothing was left
abbrev pub Took : Option (List ℕ) → List ℕ → Option (List ℕ) → Type 0
Took left got new =
    IfSome left (λ l. (rest : List ℕ) × (new ≡ Some rest) × (l ≡ got ++ rest) × (length got ≡ 0 → l ≡ []))

-- where what was written is told: it grew by exactly these bytes
abbrev pub Grew : Option (List ℕ) → List ℕ → Option (List ℕ) → Type 0
Grew old piece new = IfSome old (λ w. new ≡ Some (w ++ piece))

-- where what was written is told: it grew by a first part of these bytes
abbrev pub GrewWithin : Option (List ℕ) → List ℕ → Option (List ℕ) → Type 0
GrewWithin old bytes new =
    IfSome old (λ w. (front : List ℕ) × (rest : List ℕ) × (new ≡ Some (w ++ front)) × (bytes ≡ front ++ rest))
