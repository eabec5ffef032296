-- What is kept of names that connections used.
use Rattle.std.specs.Prelude.{◌≡◌, ℕ, List, true}
use Rattle.ncl_reader.specs.declared.name_set.NameSet.{NameSet}
use Rattle.ncl_reader.specs.Lexemes.{Lexeme}
use Rattle.ncl_reader.specs.Vectors.{IsUsed}
use Rattle.ncl_reader.specs.NameSet.{has_name}

-- the names that are kept are those
pub record IsUses (uses : NameSet) (xs : List Lexeme) : Type 0 where
  pub used : (x : List ℕ) → IsUsed xs x → has_name uses x ≡ true
  pub only : (x : List ℕ) → has_name uses x ≡ true → IsUsed xs x
