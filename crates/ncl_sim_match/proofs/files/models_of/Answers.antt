use Rattle.ncl_sim_match.proofs.Terms.{AreRefusedModels, IfErr-long, too_long}
use Rattle.ncl_sim_match.proofs.files.models_of.Goals as goal

pub returns-in_err-bytes-clause-refused : goal.returns-in_err-bytes-clause-refused
returns-in_err-bytes-clause-refused g c =
    IfErr-long _ _ _ AreRefusedModels (λ bytes many. too_long many) _ c.in_err-bytes.ensures.refused c.from_residual.result c.from_residual.ensures.1
