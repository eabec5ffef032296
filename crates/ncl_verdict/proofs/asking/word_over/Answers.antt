use Rattle.ncl_verdict.proofs.Terms.{Bool, IsAfterBase, List, Option, Variant, [], faults_of, least_word_by, subst, ◌∷◌, ◌≡◌}
use Rattle.std.specs.Prelude.{IfOk}
use Rattle.ncl_verdict.proofs.AskingLaws.{one-fault}
use Rattle.ncl_verdict.proofs.asking.word_over.Goals as goal

pub returns-in-Base : goal.returns-in-Base
returns-in-Base g c = absurd (subst (IsAfterBase c.args.asked.now.stage) c.in-Base.is c.requires.after)

pub returns-in-Bit-clause-word : goal.returns-in-Bit-clause-word
returns-in-Bit-clause-word g c = λ fault only.
    let same = one-fault (subst (λ (v : Variant). faults_of c.args.asked.now.stage v ≡ fault ∷ []) c.in-Bit.is only) in
    subst (λ (least : Option (List Bool)). IfOk c.incomplete_word.result (λ word. word ≡ least)) (λ i. least_word_by (c.base-base.ensures i).wiring.order (c.stage-stage.ensures i) (same i)) c.incomplete_word.ensures.word

pub returns-in-Cell-clause-word : goal.returns-in-Cell-clause-word
returns-in-Cell-clause-word g c = λ fault only.
    let same = one-fault (subst (λ (v : Variant). faults_of c.args.asked.now.stage v ≡ fault ∷ []) c.in-Cell.is only) in
    subst (λ (least : Option (List Bool)). IfOk c.orphan_word.result (λ word. word ≡ least)) (λ i. least_word_by (c.base-base.ensures i).wiring.order (c.stage-stage.ensures i) (same i)) c.orphan_word.ensures.word
