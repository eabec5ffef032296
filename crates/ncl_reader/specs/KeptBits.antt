-- What is kept of names that stand.
use Rattle.std.specs.Prelude.{◌<◌, ℕ, List, [], Contains, unwrap_or}
use Rattle.std.specs.BTreeMap.{get_by}
use Rattle.std.specs.Cmp.Lexicographic.{slice_cmp}
use Rattle.std.specs.Ordering.{nat_cmp}
use Rattle.std.specs.Option.{option_map}
use Rattle.ncl_reader.specs.declared.kept_bits.KeptBits.{KeptBits}
use Rattle.ncl_reader.specs.Lexemes.{Lexeme}
use Rattle.ncl_reader.specs.Vectors.{Stands, bit_name}

-- the numbers that are kept with the name of a vector
abbrev pub numbers_at : KeptBits → List ℕ → List ℕ
numbers_at standing vector = unwrap_or (option_map (λ numbers. numbers.items) (get_by (λ key. slice_cmp nat_cmp vector key.now) standing.numbers)) []

-- they are those with which the names of its bits stand
pub record IsStanding (standing : KeptBits) (xs : List Lexeme) : Type 0 where
  pub stands : (vector : List ℕ) (k : ℕ) → Contains (numbers_at standing vector) k → Stands xs (bit_name vector k)
  pub small : (vector : List ℕ) (k : ℕ) → Contains (numbers_at standing vector) k → k < 65536
  pub kept : (vector : List ℕ) (k : ℕ) → k < 65536 → Stands xs (bit_name vector k) → Contains (numbers_at standing vector) k
