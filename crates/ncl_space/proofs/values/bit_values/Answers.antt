use Rattle.ncl_space.proofs.Terms.{MASKS, ap, arith, lt-ltb, nat_eq, ne_eqb, refl, shr_and_one, sym, ℕ, ◌-◌, ◌∙◌}
use Rattle.ncl_space.proofs.BitLaws.{is_set-mask, is_set-across, is_set-ones, is_set-past}
use Rattle.ncl_space.proofs.values.bit_values.Goals as goal

pub returns-then-shift-lt6 : goal.returns-then-shift-lt6
returns-then-shift-lt6 c = λ k below. is_set-mask MASKS refl c.args.shift c.args.j k c.if-shift-lt6.true below

pub returns-then-j-shift-eq1 : goal.returns-then-j-shift-eq1
returns-then-j-shift-eq1 c = λ k below. is_set-ones 64 k ∙ lt-ltb k 64 below ∙ sym (is_set-across c.args.j k c.args.shift below (omega arith) ∙ ap (λ (b : ℕ). nat_eq b 1) (sym (shr_and_one c.args.j (c.args.shift - 6)) ∙ c.if-j-shift-eq1.true))

pub returns-else-j-shift-eq1 : goal.returns-else-j-shift-eq1
returns-else-j-shift-eq1 c = λ k below. is_set-past 0 0 k (omega arith) (omega arith) ∙ sym (is_set-across c.args.j k c.args.shift below (omega arith) ∙ ne_eqb _ 1 (λ is. c.if-j-shift-eq1.false (shr_and_one c.args.j (c.args.shift - 6) ∙ is)))
