-- Functions of words with their complements, by their names in a space.
use Rattle.std.specs.Prelude.{◌≡◌, ℕ, List, [], ◌∷◌, Bool, not, cond, map}
use Rattle.ncl_gates.specs.declared.kind.Kind.{Kind}
use Rattle.ncl_gates.specs.Gate.{set_of}
use Rattle.ncl_space.specs.Table.{words, table_of}
use Rattle.ncl_space.specs.Functions.{at}
use Rattle.ncl_space.specs.Space.{SpaceData, IsLive, with_tables}
use Rattle.ncl_space.specs.declared.space.Ref.{Ref}
use Rattle.ncl_match.specs.declared.pair.Pair.{Pair}

-- a function of words
abbrev pub WordFunction : Type 0
WordFunction = List Bool → Bool

abbrev pub inverse : WordFunction → WordFunction
inverse f word = not (f word)

-- the tables of a function and of its complement, over the words of n bits
abbrev pub both_tables : ℕ → WordFunction → List (List Bool)
both_tables n f = table_of (words n) f ∷ table_of (words n) (inverse f) ∷ []

-- one of the two of a pair, the function or its complement
abbrev pub side_of : Bool → Pair → Ref
side_of one p = cond one p.one p.zero

-- the function of a pair
abbrev pub function_at : SpaceData → Pair → WordFunction
function_at s p = at (s.table p.one)

abbrev pub functions_at : SpaceData → List Pair → List WordFunction
functions_at s pairs = map (function_at s) pairs

-- two live Refs, the second of which has the complement of the first
pub record IsPair (s : SpaceData) (p : Pair) : Type 0 where
  pub one : IsLive s p.one
  pub zero : IsLive s p.zero
  pub complement : s.table p.zero ≡ table_of (words s.width) (inverse (function_at s p))

-- the values of some functions at a word
abbrev pub values_of : List WordFunction → List Bool → List Bool
values_of fs word = map (λ (f : WordFunction). f word) fs

-- the set function of a gate on some functions
abbrev pub gate_function : Kind → List WordFunction → WordFunction
gate_function kind fs word = set_of kind (values_of fs word)

-- a pair has this function
pub record HasFunction (s : SpaceData) (p : Pair) (f : WordFunction) : Type 0 where
  pub pair : IsPair s p
  pub table : s.table p.one ≡ table_of (words s.width) f

-- a pair of this function was made, and exactly the beads of these tables came
pub record MakesPair (old new : SpaceData) (p : Pair) (f : WordFunction) (tables : List (List Bool)) : Type 0 where
  pub has : HasFunction new p f
  pub held : new.held ≡ with_tables old tables
