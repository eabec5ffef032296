use Rattle.ncl_top.proofs.Terms.{AreModelsText, AreRefusedModels, IsCompiledFile, IsModelsReply, IsReadReply-refused, reading, subst}
use Rattle.ncl_sim_match.proofs.SimReplies.{gives_from}
use Rattle.ncl_top.proofs.files.compile_file.Goals as goal

pub returns-in_err-models-clause-replies : goal.returns-in_err-models-clause-replies
returns-in_err-models-clause-replies g c =
    IsReadReply-refused AreRefusedModels AreModelsText (λ models. IsModelsReply models c.args.merge) _ _ _ c.in_err-models.ensures.refused c.from_residual.result c.from_residual.ensures.1

pub returns-clause-replies : goal.returns-clause-replies
returns-clause-replies g c =
    gives_from (IsModelsReply c.deref.result.now c.args.merge) (IsCompiledFile (g.S.Source.files c.args.source.now) c.args.file.now c.args.merge)
    (λ status text reply. reading c.in_ok-models.models.items c.in_ok-models.ensures.models status text (subst (λ ms. IsModelsReply ms c.args.merge status text) c.deref.ensures.value reply))
    c.in_ok-compile_models.field-0 c.in_ok-compile_models.ensures
