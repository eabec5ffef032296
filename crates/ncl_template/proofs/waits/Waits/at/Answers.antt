use Rattle.ncl_template.proofs.Terms.{ap, is_set, nat_eq, shr_and_one, ℕ, ◌∙◌}
use Rattle.ncl_template.proofs.waits.Waits.at.Goals as goal

pub returns : goal.returns
returns c =
    ap (λ (b : ℕ). nat_eq b 1) (shr_and_one c.mask.result c.word_number.result)
    ∙ (λ i. is_set (c.mask.ensures i) (c.word_number.ensures.is i))
