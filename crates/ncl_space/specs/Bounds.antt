-- A bound on the beads of tables that depend on few bits.
use Rattle.std.specs.Prelude.{◌≡◌, ⊤, ℕ, suc, ◌+◌, ◌^◌, Bool, true, false, ◌&&◌, List, [], ◌∷◌, ◌++◌, length}
use Rattle.ncl_space.specs.Beads.{low_half, high_half, is_same}
use Rattle.ncl_space.specs.Table.{words}

-- so many bits: one for each mark, and three more
abbrev pub width_of : List Bool → ℕ
width_of [] = 3
width_of (mark ∷ marks) = suc (width_of marks)

-- a table doesn't depend on the first bits whose marks are false
abbrev pub is_free : List Bool → List Bool → Bool
is_free [] table = true
is_free (true ∷ marks) table = is_free marks (low_half (width_of marks) table) && is_free marks (high_half (width_of marks) table)
is_free (false ∷ marks) table = is_same (low_half (width_of marks) table) (high_half (width_of marks) table) && is_free marks (low_half (width_of marks) table)

-- at most so many beads begin at these bits: one less than 2 to the number of marks that are true
abbrev pub weight : List Bool → ℕ
weight [] = 0
weight (true ∷ marks) = suc (weight marks + weight marks)
weight (false ∷ marks) = weight marks

-- a table and the marks of its first bits
pub record Marked : Type 0 where
  pub marks : List Bool
  pub table : List Bool

abbrev pub weights : List Marked → ℕ
weights [] = 0
weights (x ∷ xs) = weight x.marks + weights xs

-- a table of n bits that doesn't depend on the first bits whose marks are false
pub record IsMarked (n : ℕ) (x : Marked) : Type 0 where
  pub width : width_of x.marks ≡ n
  pub long : length x.table ≡ 2 ^ n
  pub free : is_free x.marks x.table ≡ true

-- all tables of one, two and three bits
abbrev pub small_tables : List (List Bool)
small_tables = words 2 ++ words 4 ++ words 8

-- two words agree on the first bits whose marks are true, and on all after the marks
abbrev pub Agree : List Bool → List Bool → List Bool → Type 0
Agree [] v w = v ≡ w
Agree (mark ∷ marks) [] [] = ⊤
Agree (mark ∷ marks) [] (y ∷ w) = ⊥
Agree (mark ∷ marks) (x ∷ v) [] = ⊥
Agree (true ∷ marks) (x ∷ v) (y ∷ w) = (x ≡ y) × Agree marks v w
Agree (false ∷ marks) (x ∷ v) (y ∷ w) = Agree marks v w

-- a function has one value at words that agree
abbrev pub LooksAt : List Bool → (List Bool → Bool) → Type 0
LooksAt marks f = (v w : List Bool) → Agree marks v w → f v ≡ f w
