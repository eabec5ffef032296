use Rattle.ncl_reaching.proofs.Terms.{[], arith, judgement-sound, sym, ◌∙◌, ◌∷◌}
use Rattle.ncl_reaching.proofs.reaching.is_sound.Goals as goal

pub returns-in-Accepted : goal.returns-in-Accepted
returns-in-Accepted c = λ e. judgement-sound c.args.limit (c.args.stage.now ∷ []) (sym c.in_ok-verdict.ensures ∙ c.in-Accepted.is) 0 c.args.stage.now (omega arith)
