-- What a refusal says.
use Rattle.std.specs.Prelude.{ℕ, List}
use Rattle.ncl_check.specs.declared.text.Refusal.{Refusal}
use Rattle.ncl_check.specs.declared.text.Refusal.TheVariants.{Told, Memory}

-- the line that is told is of this kind; want of memory may come at any time
abbrev pub TellsLine : (List ℕ → Type 0) → Refusal → Type 0
TellsLine kind (Told text) = kind text.items
TellsLine kind Memory = Unit {0}
