use Rattle.ncl_match.proofs.AnswerLaws.{DiffersAt, IsOver, IsRunAnswer, joined-same, subst}
use Rattle.ncl_match.proofs.joining.joined.Goals as goal

pub returns-in-Same : goal.returns-in-Same
returns-in-Same c = λ circuit models limit low middle high first_le second_le first second.
    joined-same (IsOver circuit models limit) (DiffersAt circuit models) low middle high first_le second_le c.args.second (subst (IsRunAnswer circuit models limit low middle) c.in-Same.is first) second

pub returns-in-Differ : goal.returns-in-Differ
returns-in-Differ c = λ circuit models limit low middle high first_le second_le first second.
    c.with_difference.ensures circuit models limit low middle high first_le second_le (subst (IsRunAnswer circuit models limit low middle) c.in-Differ.is first) second
