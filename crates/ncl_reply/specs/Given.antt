-- What a load of a file can give.
use Rattle.std.specs.Prelude.{◌≡◌, ℕ, ◌<◌, List, length, Option, IfSome}
use Rattle.ncl_base.specs.declared.source.TheConstants.{MOST_BYTES}
use Rattle.ncl_base.specs.Files.{Files, bytes_of}

-- bytes that a load of the named file can give: those that are held under the name, where the source
-- tells its files, and any where it tells nothing
abbrev pub IsGiven : Option Files → List ℕ → List ℕ → Type 0
IsGiven told name bytes = IfSome told (λ files. bytes ≡ bytes_of files name)

-- the file has more bytes than are read
pub record IsTooLong (told : Option Files) (name : List ℕ) : Type 0 where
  pub bytes : List ℕ
  pub given : IsGiven told name bytes
  pub many : MOST_BYTES < length bytes

-- what stands in this relation to bytes of the file: what they say, or the line that tells why they are refused
pub record ComesFrom {A : Type 0} (told : Option Files) (name : List ℕ) (relation : List ℕ → A → Type 0) (what : A) : Type 0 where
  pub bytes : List ℕ
  pub given : IsGiven told name bytes
  pub is : relation bytes what
