use Rattle.ncl_verdict.proofs.Terms.{ap, arith, bit_at-pow_same, is_set, nat_eq, one_shl, subst, true, ℕ, ◌%◌, ◌*◌, ◌<◌, ◌^◌, ◌∙◌, ◌≡◌}
use Rattle.ncl_verdict.proofs.supports.rail_mask.Goals as goal

-- the bit of a place is set
alone : (place : ℕ) → place < 128 → is_set (1 * 2 ^ place % 2 ^ 128) place ≡ true
alone place lt = ap (λ n. is_set n place) (one_shl place 128 lt) ∙ ap (λ n. nat_eq n 1) (bit_at-pow_same place)

pub overflow_shl-result : goal.overflow_shl-result
overflow_shl-result c = omega (arith, c.place_of-place.ensures.within, c.requires.few)

pub returns-then-place-bits : goal.returns-then-place-bits
returns-then-place-bits c = λ before. subst (λ p. is_set (1 * 2 ^ c.place_of-place.result % 2 ^ 128) p ≡ true) c.place_of-place.ensures.place (alone c.place_of-place.result (omega (arith, c.place_of-place.ensures.within, c.requires.few)))
