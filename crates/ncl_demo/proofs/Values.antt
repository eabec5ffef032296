-- What the rows of the covers give.
use Rattle.ncl_demo.proofs.Terms.{Bool, FULL_CARRY, FULL_SUM, HALF_CARRY, HALF_SUM, [], carry_of, cover_value, false, refl, sum_of, true, ◌∷◌, ◌≡◌}

-- the carry of two bits
pub half_carry : (a b : Bool) → cover_value true HALF_CARRY (a ∷ b ∷ []) ≡ carry_of false a b
half_carry false false = refl
half_carry false true = refl
half_carry true false = refl
half_carry true true = refl

-- the sum of two bits
pub half_sum : (a b : Bool) → cover_value true HALF_SUM (a ∷ b ∷ []) ≡ sum_of false a b
half_sum false false = refl
half_sum false true = refl
half_sum true false = refl
half_sum true true = refl

-- the carry of three bits, and their sum
full_adder : (c a b : Bool) → (cover_value true FULL_CARRY (c ∷ a ∷ b ∷ []) ≡ carry_of c a b) × (cover_value true FULL_SUM (c ∷ a ∷ b ∷ []) ≡ sum_of c a b)
full_adder false false false = (refl, refl)
full_adder false false true = (refl, refl)
full_adder false true false = (refl, refl)
full_adder false true true = (refl, refl)
full_adder true false false = (refl, refl)
full_adder true false true = (refl, refl)
full_adder true true false = (refl, refl)
full_adder true true true = (refl, refl)

pub full_carry : (c a b : Bool) → cover_value true FULL_CARRY (c ∷ a ∷ b ∷ []) ≡ carry_of c a b
full_carry c a b = (full_adder c a b).0

pub full_sum : (c a b : Bool) → cover_value true FULL_SUM (c ∷ a ∷ b ∷ []) ≡ sum_of c a b
full_sum c a b = (full_adder c a b).1
