-- The bit orders of worked examples.
use Rattle.ncl_stage.proofs.Terms.{[], adder_stage, bit_order, refl, swapped_stage, unmet_stage, ◌∷◌, ◌≡◌}

pub adder-order : bit_order adder_stage ≡ 0 ∷ 1 ∷ 2 ∷ []
adder-order = refl

pub swapped-order : bit_order swapped_stage ≡ 1 ∷ 0 ∷ []
swapped-order = refl

pub unmet-order : bit_order unmet_stage ≡ 1 ∷ 0 ∷ 2 ∷ []
unmet-order = refl
