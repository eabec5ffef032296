-- Texts and models for worked examples.
use Rattle.std.specs.Prelude.{ℕ, List, [], ◌∷◌, ◌++◌, true, false, codes}
use Rattle.std.specs.List.{flat_map}
use Rattle.ncl_blif.specs.declared.model.Lit.TheVariants.{Zero, One}
use Rattle.ncl_blif.specs.declared.model.Model.{Model}

-- a text of these lines, each of which ends with a line feed
abbrev pub text_of : List (List ℕ) → List ℕ
text_of texts = flat_map (λ text. text ++ 10 ∷ []) texts

-- a line that goes on in the next: it ends with \ (92)
abbrev pub going_on : List ℕ → List ℕ
going_on text = text ++ 92 ∷ []

-- a half adder whose second stage is an inverter
abbrev pub half_adder : List ℕ
half_adder = text_of (
    codes "# a half adder" ∷ codes ".model half" ∷ going_on (codes ".inputs a ") ∷ codes "b # and that's all"
    ∷ codes ".outputs carry sum" ∷ codes ".names a b carry" ∷ codes "11 1" ∷ codes ".names a b sum" ∷ codes "10 1" ∷ codes "01 1"
    ∷ codes ".model rest" ∷ codes ".inputs c s" ∷ codes ".outputs c n" ∷ codes ".names s n" ∷ codes "1 0" ∷ [])

-- its models: of the first, carry is signal 2 and sum is signal 3; of the second, n is signal 2 and its rows
-- list where it is 0
abbrev pub half : Model
half = record {
  name = codes "half";
  inputs = 0 ∷ 1 ∷ [];
  outputs = 2 ∷ 3 ∷ [];
  covers =
      record { ins = 0 ∷ 1 ∷ []; out = 2; on = true; rows = (One ∷ One ∷ []) ∷ [] }
      ∷ record { ins = 0 ∷ 1 ∷ []; out = 3; on = true; rows = (One ∷ Zero ∷ []) ∷ (Zero ∷ One ∷ []) ∷ [] }
      ∷ [];
}

abbrev pub rest : Model
rest = record {
  name = codes "rest";
  inputs = 0 ∷ 1 ∷ [];
  outputs = 0 ∷ 2 ∷ [];
  covers = record { ins = 1 ∷ []; out = 2; on = false; rows = (One ∷ []) ∷ [] } ∷ [];
}

-- a text of one model with an input a and an output y, and these lines after them
abbrev pub with_lines : List (List ℕ) → List ℕ
with_lines texts = text_of (codes ".model m" ∷ codes ".inputs a" ∷ codes ".outputs y" ∷ texts)
