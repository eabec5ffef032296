-- Lists of names. A name is the list of its bytes.
use Rattle.std.specs.Prelude.{◌≡◌, ℕ, ◌<◌, List, [], ◌∷◌, Bool, not, nat_eq, filter, slice_get, Some}
use Rattle.std.specs.List.{position_or_len, IsDistinct}
use Rattle.std.specs.Cmp.Lexicographic.{pointwise}

-- whether two names have the same bytes
abbrev pub same_name : List ℕ → List ℕ → Bool
same_name = pointwise nat_eq

-- no two of the names are the same
abbrev pub AllDiffer : List (List ℕ) → Type 0
AllDiffer names = IsDistinct same_name names

-- each name once, in the order of first appearance
abbrev pub once_each : List (List ℕ) → List (List ℕ)
once_each [] = []
once_each (x ∷ xs) = x ∷ filter (λ y. not (same_name y x)) (once_each xs)

-- the number of a name: the place of the first name that is the same, counted from 0
abbrev pub name_number : List (List ℕ) → List ℕ → ℕ
name_number names x = position_or_len (same_name x) names

-- the name at the place k stands at an earlier place too
pub record Repeats (names : List (List ℕ)) (k : ℕ) : Type 0 where
  pub earlier : ℕ
  pub before : earlier < k
  pub same : slice_get names earlier ≡ slice_get names k

-- x is the name at the first place of which P holds
pub record IsFirstWhere (P : ℕ → Type 0) (names : List (List ℕ)) (x : List ℕ) : Type 0 where
  pub place : ℕ
  pub is : slice_get names place ≡ Some x
  pub holds : P place
  pub none_before : (k : ℕ) → k < place → P k → ⊥
