use Rattle.ncl_sim_match.proofs.Terms.{AreRefusedModels, Memory, TellsLine-weaker, blif_line, subst, sym, unread, ◌≡◌, ◌≢◌}
use Rattle.ncl_sim_match.proofs.ModelsText.{refused}
use Rattle.ncl_sim_match.proofs.reading.models_in.Goals as goal

pub returns-in-Err-clause-refused : goal.returns-in-Err-clause-refused
returns-in-Err-clause-refused c =
    let bytes = c.args.bytes.now in
    let fault = c.in-Err.fault in
    TellsLine-weaker (λ text. (fault ≢ Memory) × (text ≡ blif_line fault)) (AreRefusedModels bytes)
    (λ text told. subst (AreRefusedModels bytes) (sym told.1) (unread c.requires fault (refused bytes fault told.0 c.in-Err.ensures.refused)))
    c.no_models.result c.no_models.ensures
