use Rattle.ncl_match.proofs.AnswerLaws.{IsBitAnswer, IsRunAnswer, run-of-same, subst, sym}
use Rattle.ncl_match.specs.declared.answer.BitAnswer.TheVariants as bit
use Rattle.ncl_match.specs.declared.answer.RunAnswer.TheVariants as run
use Rattle.ncl_match.proofs.joining.run_of.Goals as goal

pub returns-in-Same : goal.returns-in-Same
returns-in-Same c = λ circuit models limit low e is.
    subst (λ n. IsRunAnswer circuit models limit low n run.Same) (sym e)
    (run-of-same circuit models limit low (subst (λ n. IsBitAnswer circuit models limit n bit.Same) e (subst (IsBitAnswer circuit models limit c.args.output) c.in-Same.is is)))
