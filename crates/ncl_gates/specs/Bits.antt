-- Bits of numbers, the least significant first.
use Rattle.std.specs.Prelude.{ℕ, Bool, List, [], ◌∷◌, ◌&&◌, false, nat_eq, suc, true, zero}
use Rattle.std.specs.Int.{bit_at}

-- bit i of a number is 1
abbrev pub is_set : ℕ → ℕ → Bool
is_set number i = nat_eq (bit_at number i) 1

-- a test at all values of so many bits
abbrev pub at_all : ℕ → (List Bool → Bool) → Bool
at_all zero test = test []
at_all (suc n) test = at_all n (λ bits. test (true ∷ bits)) && at_all n (λ bits. test (false ∷ bits))
