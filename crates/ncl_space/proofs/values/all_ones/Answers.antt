use Rattle.ncl_space.proofs.Terms.{ap, arith, is_set, lt-ltb, one_shl, pow_mono, pow_pos, sym, ℕ, ◌%◌, ◌*◌, ◌-◌, ◌<◌, ◌^◌, ◌∙◌, ◌≡◌, ◌≤◌}
use Rattle.ncl_space.proofs.BitLaws.{is_set-ones}
use Rattle.ncl_space.proofs.values.all_ones.Goals as goal

-- a word of fewer than 6 bits has so many values, fewer than 64
values_are : (width : ℕ) → width < 6 → 1 * 2 ^ width % 2 ^ 64 ≡ 2 ^ width
values_are width few = one_shl width 64 (omega arith)

few_values : (width : ℕ) → width < 6 → 1 * 2 ^ width % 2 ^ 64 < 64
few_values width few = let most : 2 ^ width ≤ 2 ^ 5 = pow_mono {i = width} {j = 5} (omega arith) in omega (arith, values_are width few)

-- and so many ones as a number
ones_are : (width : ℕ) → width < 6 → 1 * 2 ^ (1 * 2 ^ width % 2 ^ 64) % 2 ^ 64 ≡ 2 ^ 2 ^ width
ones_are width few = one_shl (1 * 2 ^ width % 2 ^ 64) 64 (few_values width few) ∙ ap (λ (k : ℕ). 2 ^ k) (values_are width few)

pub overflow_shl-values : goal.overflow_shl-values
overflow_shl-values c = omega arith

pub overflow_shl-result : goal.overflow_shl-result
overflow_shl-result c = few_values c.args.width c.if-width-lt6.true

pub overflow_sub-result : goal.overflow_sub-result
overflow_sub-result c = omega (arith, ones_are c.args.width c.if-width-lt6.true, pow_pos (2 ^ c.args.width))

pub returns-then-width-lt6 : goal.returns-then-width-lt6
returns-then-width-lt6 c = λ k below. ap (λ (ones : ℕ). is_set (ones - 1) k) (ones_are c.args.width c.if-width-lt6.true) ∙ is_set-ones (2 ^ c.args.width) k

pub returns-else-width-lt6 : goal.returns-else-width-lt6
returns-else-width-lt6 c = λ k below.
    let some : 2 ^ 6 ≤ 2 ^ c.args.width = pow_mono {i = 6} {j = c.args.width} (omega arith) in
    is_set-ones 64 k ∙ lt-ltb k 64 below ∙ sym (lt-ltb k (2 ^ c.args.width) (omega arith))
