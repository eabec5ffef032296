use Rattle.ncl_verdict.proofs.Terms.{Err, Full, IfOk, None, Some, StageData, StageFault, [], ap, faults_of, subst, sym, verdict_of, ◌∙◌, ◌∷◌, ◌≡◌}
use Rattle.ncl_verdict.specs.declared.verdict.Verdict.TheVariants as verdict
use Rattle.ncl_verdict.proofs.AskingLaws.{asked-full, asked-word, fault-after}
use Rattle.ncl_verdict.proofs.variants.said_at.Goals as goal

pub returns-in-Ok-Some : goal.returns-in-Ok-Some
returns-in-Ok-Some g c =
    let (fault, only) = fault-after c.args.asked.now.stage c.args.variant c.requires.after in
    let told = subst (λ (s : StageData). (f : StageFault) → faults_of s c.args.variant ≡ f ∷ [] → c.told.result ≡ Some (verdict_of s f c.in-Ok-Some.word)) c.stage-stage.ensures c.told.ensures in
    record {
      answer = told fault only ∙ asked-word c.requires.asked c.args.variant fault (Some c.in-Ok-Some.word) only (sym c.in-Ok-Some.field-0-is ∙ c.in-Ok-Some.ensures.word fault only) c.in-Ok-Some.ensures.fits;
      asked = c.asked_word.ensures.asked;
    }

pub returns-in-Ok-None : goal.returns-in-Ok-None
returns-in-Ok-None g c =
    let (fault, only) = fault-after c.args.asked.now.stage c.args.variant c.requires.after in
    record {
      answer = asked-word c.requires.asked c.args.variant fault None only (sym c.in-Ok-None.field-0-is ∙ c.in-Ok-None.ensures.word fault only) c.in-Ok-None.ensures.fits;
      asked = c.asked_word.ensures.asked;
    }

pub returns-in-Err : goal.returns-in-Err
returns-in-Err g c = record {
  answer = asked-full _ c.args.asked.now.stage c.args.variant _ c.stopped.result (λ e. c.in-Err.ensures.full (ap Err e))
      (subst (λ (s : StageData). IfOk c.stopped.result (λ answer. (c.in-Err.fault ≡ Full) × (answer ≡ Some (verdict.Limit s.number)))) c.stage-stage.ensures c.stopped.ensures);
  asked = c.asked_word.ensures.asked;
}
