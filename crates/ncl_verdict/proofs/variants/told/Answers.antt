use Rattle.ncl_verdict.proofs.Terms.{IsAfterBase, Some, StageData, StageFault, Variant, [], ap, faults_of, subst, verdict_of, ◌+◌, ◌∙◌, ◌∷◌, ◌≡◌}
use Rattle.ncl_verdict.specs.declared.verdict.Verdict.TheVariants as verdict
use Rattle.ncl_verdict.proofs.AskingLaws.{one-fault}
use Rattle.ncl_verdict.proofs.variants.told.Goals as goal

pub returns-in-Base : goal.returns-in-Base
returns-in-Base c = absurd (subst (IsAfterBase c.args.stage.now) c.in-Base.is c.requires)

pub returns-in-Bit : goal.returns-in-Bit
returns-in-Bit c = λ fault only.
    ap (λ (t : StageData). Some (verdict.Incomplete t.number (c.in-Bit.bit + 1) c.args.word)) c.stage.view_is
    ∙ ap (λ (f : StageFault). Some (verdict_of c.args.stage.now f c.args.word)) (one-fault (subst (λ (v : Variant). faults_of c.args.stage.now v ≡ fault ∷ []) c.in-Bit.is only))

pub returns-in-Cell : goal.returns-in-Cell
returns-in-Cell c = λ fault only.
    ap (λ (t : StageData). Some (verdict.Orphan t.number c.cell_at.result c.args.word)) c.stage.view_is
    ∙ ap (λ n. Some (verdict.Orphan c.args.stage.now.number n c.args.word)) c.cell_at.ensures
    ∙ ap (λ (f : StageFault). Some (verdict_of c.args.stage.now f c.args.word)) (one-fault (subst (λ (v : Variant). faults_of c.args.stage.now v ≡ fault ∷ []) c.in-Cell.is only))
