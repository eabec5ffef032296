use Rattle.ncl_sim_match.proofs.Terms.{AreModelsText, AreRefusedModels, IsMatched, IsModelsMatched, IsReadReply-refused, circuit_of, reading, subst}
use Rattle.ncl_sim_match.proofs.SimReplies.{gives_from}
use Rattle.ncl_sim_match.proofs.files.models_reply.Goals as goal

pub returns-in_err-models-clause-replies : goal.returns-in_err-models-clause-replies
returns-in_err-models-clause-replies g c =
    IsReadReply-refused AreRefusedModels AreModelsText (λ models. IsMatched (circuit_of c.args.pipeline.now) models c.args.other.now.limit)
    _ _ _ c.in_err-models.ensures.refused c.from_residual.result c.from_residual.ensures.1

pub returns-clause-replies : goal.returns-clause-replies
returns-clause-replies g c =
    let circuit = circuit_of c.args.pipeline.now in
    let limit = c.args.other.now.limit in
    gives_from (IsMatched circuit c.deref.result.now limit) (IsModelsMatched (g.S.Source.files c.args.source.now) c.args.pipeline.now c.args.other.now.blif.now limit)
    (λ status text reply. reading c.in_ok-models.models.items c.in_ok-models.ensures.models status text (subst (λ ms. IsMatched circuit ms limit status text) c.deref.ensures.value reply))
    c.in_ok-match_models.field-0 c.in_ok-match_models.ensures
