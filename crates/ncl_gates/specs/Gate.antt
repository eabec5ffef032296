-- The 27 threshold gates (Fant and Brandt 1996; Smith and Di 2009): the set function of each as a sum
-- of products of pins, and the next value with hysteresis.
use Rattle.std.specs.Prelude.{ℕ, List, [], ◌∷◌, Bool, true, false, if◌then◌else◌, slice_index_or}
use Rattle.std.specs.List.{list_any, list_all}
use Rattle.ncl_gates.specs.declared.kind.Kind.{Kind}
use Rattle.ncl_gates.specs.declared.kind.Kind.TheVariants.{Th12, Th22, Th13, Th23, Th33, Th23w2, Th33w2, Th14, Th24, Th34, Th44, Th24w2, Th34w2, Th44w2, Th34w3, Th44w3, Th24w22, Th34w22, Th44w22, Th54w22, Th34w32, Th54w32, Th44w322, Th54w322, ThXor0, ThAnd0, Th24comp}

-- an input pin of a gate
pub data Pin : Type 0 where
  A : Pin
  B : Pin
  C : Pin
  D : Pin

-- how many inputs a gate has
abbrev pub arity_of : Kind → ℕ
arity_of Th12 = 2
arity_of Th22 = 2
arity_of Th13 = 3
arity_of Th23 = 3
arity_of Th33 = 3
arity_of Th23w2 = 3
arity_of Th33w2 = 3
arity_of Th14 = 4
arity_of Th24 = 4
arity_of Th34 = 4
arity_of Th44 = 4
arity_of Th24w2 = 4
arity_of Th34w2 = 4
arity_of Th44w2 = 4
arity_of Th34w3 = 4
arity_of Th44w3 = 4
arity_of Th24w22 = 4
arity_of Th34w22 = 4
arity_of Th44w22 = 4
arity_of Th54w22 = 4
arity_of Th34w32 = 4
arity_of Th54w32 = 4
arity_of Th44w322 = 4
arity_of Th54w322 = 4
arity_of ThXor0 = 4
arity_of ThAnd0 = 4
arity_of Th24comp = 4

-- the set function as a sum of products, each product a list of pins
abbrev pub products : Kind → List (List Pin)
products Th12 = (A ∷ []) ∷ (B ∷ []) ∷ []
products Th22 = (A ∷ B ∷ []) ∷ []
products Th13 = (A ∷ []) ∷ (B ∷ []) ∷ (C ∷ []) ∷ []
products Th23 = (A ∷ B ∷ []) ∷ (A ∷ C ∷ []) ∷ (B ∷ C ∷ []) ∷ []
products Th33 = (A ∷ B ∷ C ∷ []) ∷ []
products Th23w2 = (A ∷ []) ∷ (B ∷ C ∷ []) ∷ []
products Th33w2 = (A ∷ B ∷ []) ∷ (A ∷ C ∷ []) ∷ []
products Th14 = (A ∷ []) ∷ (B ∷ []) ∷ (C ∷ []) ∷ (D ∷ []) ∷ []
products Th24 = (A ∷ B ∷ []) ∷ (A ∷ C ∷ []) ∷ (A ∷ D ∷ []) ∷ (B ∷ C ∷ []) ∷ (B ∷ D ∷ []) ∷ (C ∷ D ∷ []) ∷ []
products Th34 = (A ∷ B ∷ C ∷ []) ∷ (A ∷ B ∷ D ∷ []) ∷ (A ∷ C ∷ D ∷ []) ∷ (B ∷ C ∷ D ∷ []) ∷ []
products Th44 = (A ∷ B ∷ C ∷ D ∷ []) ∷ []
products Th24w2 = (A ∷ []) ∷ (B ∷ C ∷ []) ∷ (B ∷ D ∷ []) ∷ (C ∷ D ∷ []) ∷ []
products Th34w2 = (A ∷ B ∷ []) ∷ (A ∷ C ∷ []) ∷ (A ∷ D ∷ []) ∷ (B ∷ C ∷ D ∷ []) ∷ []
products Th44w2 = (A ∷ B ∷ C ∷ []) ∷ (A ∷ B ∷ D ∷ []) ∷ (A ∷ C ∷ D ∷ []) ∷ []
products Th34w3 = (A ∷ []) ∷ (B ∷ C ∷ D ∷ []) ∷ []
products Th44w3 = (A ∷ B ∷ []) ∷ (A ∷ C ∷ []) ∷ (A ∷ D ∷ []) ∷ []
products Th24w22 = (A ∷ []) ∷ (B ∷ []) ∷ (C ∷ D ∷ []) ∷ []
products Th34w22 = (A ∷ B ∷ []) ∷ (A ∷ C ∷ []) ∷ (A ∷ D ∷ []) ∷ (B ∷ C ∷ []) ∷ (B ∷ D ∷ []) ∷ []
products Th44w22 = (A ∷ B ∷ []) ∷ (A ∷ C ∷ D ∷ []) ∷ (B ∷ C ∷ D ∷ []) ∷ []
products Th54w22 = (A ∷ B ∷ C ∷ []) ∷ (A ∷ B ∷ D ∷ []) ∷ []
products Th34w32 = (A ∷ []) ∷ (B ∷ C ∷ []) ∷ (B ∷ D ∷ []) ∷ []
products Th54w32 = (A ∷ B ∷ []) ∷ (A ∷ C ∷ D ∷ []) ∷ []
products Th44w322 = (A ∷ B ∷ []) ∷ (A ∷ C ∷ []) ∷ (A ∷ D ∷ []) ∷ (B ∷ C ∷ []) ∷ []
products Th54w322 = (A ∷ B ∷ []) ∷ (A ∷ C ∷ []) ∷ (B ∷ C ∷ D ∷ []) ∷ []
products ThXor0 = (A ∷ B ∷ []) ∷ (C ∷ D ∷ []) ∷ []
products ThAnd0 = (A ∷ B ∷ []) ∷ (B ∷ C ∷ []) ∷ (A ∷ D ∷ []) ∷ []
products Th24comp = (A ∷ C ∷ []) ∷ (B ∷ C ∷ []) ∷ (A ∷ D ∷ []) ∷ (B ∷ D ∷ []) ∷ []

-- the place of a pin among the inputs
abbrev pub place_of : Pin → ℕ
place_of A = 0
place_of B = 1
place_of C = 2
place_of D = 3

-- the value at a pin
abbrev pub at_pin : List Bool → Pin → Bool
at_pin ins pin = slice_index_or ins (place_of pin) false

-- the set function: some product has all its pins at 1
abbrev pub set_of : Kind → List Bool → Bool
set_of kind ins = list_any (λ product. list_all (at_pin ins) product) (products kind)

-- some input is 1
abbrev pub some_high : List Bool → Bool
some_high ins = list_any (λ b. b) ins

-- the next value, with hysteresis: 1 where the set function holds, 0 where all inputs are 0, and
-- between these the old value is kept
abbrev pub next_of : Kind → List Bool → Bool → Bool
next_of kind ins old = if set_of kind ins then true else (if some_high ins then old else false)
