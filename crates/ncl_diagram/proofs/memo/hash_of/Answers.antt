use Rattle.std.specs.Prelude.{◌/◌, ◌^◌, bit_xor, ℕ}
use Rattle.ncl_diagram.specs.Keys.{hash_of, sum_of_products}
use Rattle.ncl_diagram.proofs.memo.hash_of.Goals as goal

mixed : ℕ → ℕ → ℕ
mixed x y = bit_xor (sum_of_products x y) (sum_of_products x y / 2 ^ 32)

pub returns : goal.returns
unfolding hash_of mixed
returns c = λ i. mixed (c.pair-first.ensures i) (c.pair-second.ensures i)
