-- The dual of a gate makes the complement of its set function from the complements of its inputs (duality of threshold
-- functions, Muroga 1971). The 27 gates are closed under it.
use Rattle.std.specs.Prelude.{◌≡◌, List, [], ◌∷◌, Bool, true, false, not, map, length, if◌then◌else◌}
use Rattle.ncl_gates.specs.declared.kind.Kind.{Kind}
use Rattle.ncl_gates.specs.declared.kind.Kind.TheVariants.{Th12, Th22, Th13, Th23, Th33, Th23w2, Th33w2, Th14, Th24, Th34, Th44, Th24w2, Th34w2, Th44w2, Th34w3, Th44w3, Th24w22, Th34w22, Th44w22, Th54w22, Th34w32, Th54w32, Th44w322, Th54w322, ThXor0, ThAnd0, Th24comp}
use Rattle.ncl_gates.specs.Gate.{arity_of, set_of}

-- the dual of a gate
abbrev pub dual_of : Kind → Kind
dual_of Th12 = Th22
dual_of Th22 = Th12
dual_of Th13 = Th33
dual_of Th23 = Th23
dual_of Th33 = Th13
dual_of Th23w2 = Th33w2
dual_of Th33w2 = Th23w2
dual_of Th14 = Th44
dual_of Th24 = Th34
dual_of Th34 = Th24
dual_of Th44 = Th14
dual_of Th24w2 = Th44w2
dual_of Th34w2 = Th34w2
dual_of Th44w2 = Th24w2
dual_of Th34w3 = Th44w3
dual_of Th44w3 = Th34w3
dual_of Th24w22 = Th54w22
dual_of Th34w22 = Th44w22
dual_of Th44w22 = Th34w22
dual_of Th54w22 = Th24w22
dual_of Th34w32 = Th54w32
dual_of Th54w32 = Th34w32
dual_of Th44w322 = Th54w322
dual_of Th54w322 = Th44w322
dual_of ThXor0 = Th24comp
dual_of ThAnd0 = ThAnd0
dual_of Th24comp = ThXor0

-- whether the dual has pins A and B exchanged: that of THand0 alone has
abbrev pub is_crossed : Kind → Bool
is_crossed ThAnd0 = true
is_crossed kind = false

-- the first two change places
abbrev pub crossed : {X : Type 0} → List X → List X
crossed [] = []
crossed (a ∷ []) = a ∷ []
crossed (a ∷ b ∷ others) = b ∷ a ∷ others

-- what stands at the pins of the dual: what stands at those of the gate, A and B exchanged where it is crossed
abbrev pub dual_pins : {X : Type 0} → Kind → List X → List X
dual_pins kind ins = if is_crossed kind then crossed ins else ins

-- on the complements the dual holds exactly where the gate doesn't
abbrev pub IsDual : Kind → Type 0
IsDual kind = (ins : List Bool) → length ins ≡ arity_of kind → set_of (dual_of kind) (dual_pins kind (map not ins)) ≡ not (set_of kind ins)
