use Rattle.std.proofs.Common.{sym, ◌∙◌}
use Rattle.ncl_blif.proofs.AnswerLaws.{read_is_not_refused, one_refusal}
use Rattle.ncl_blif.proofs.laws.one_answer.Goals as goal

pub returns : goal.returns
returns c = record { models = λ text a b r s. r.said ∙ sym s.said; either = read_is_not_refused; fault = one_refusal }
