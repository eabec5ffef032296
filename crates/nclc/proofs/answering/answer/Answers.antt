use Rattle.std.proofs.lemmas.Result.{IfErr-weaker, IfOk-weaker}
use Rattle.nclc.proofs.Ends.{ended, ended_without}
use Rattle.nclc.proofs.answering.answer.Goals as goal

pub returns-clause-answered : goal.returns-clause-answered
returns-clause-answered g c =
    IfOk-weaker c.args.args _ _ (λ given. ended _ _ c.status_for.result _ c.code_of.ensures c.status_for.ensures.no_memory c.status_for.ensures.untouched) c.status_for.ensures.answered

pub returns-clause-no_text : goal.returns-clause-no_text
returns-clause-no_text g c =
    IfErr-weaker c.args.args _ _ (λ error told is. ended _ _ c.status_for.result _ c.code_of.ensures c.status_for.ensures.no_memory c.status_for.ensures.untouched (told is)) c.status_for.ensures.no_text

pub returns-clause-no_arguments : goal.returns-clause-no_arguments
returns-clause-no_arguments g c =
    IfErr-weaker c.args.args _ _ (λ error told is. ended_without _ c.status_for.result _ c.code_of.ensures c.status_for.ensures.untouched (told is)) c.status_for.ensures.no_arguments
