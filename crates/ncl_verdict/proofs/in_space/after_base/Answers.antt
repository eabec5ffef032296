use Rattle.ncl_verdict.proofs.Terms.{All, IsAfterBase, StageData, subst, sym, ◌∙◌}
use Rattle.ncl_verdict.proofs.FileOrder.{after_base-within}
use Rattle.ncl_verdict.proofs.in_space.after_base.Goals as goal

pub first_said-requires-clause-after : goal.first_said-requires-clause-after
first_said-requires-clause-after g c =
    subst (λ (s : StageData). All (IsAfterBase s) c.as_slice.result.now) (sym c.of-asked.ensures.stage)
    (subst (All (IsAfterBase c.args.stage.now)) (sym (c.as_slice.ensures.value ∙ c.in_ok-variants.ensures)) (after_base-within c.args.stage.now))
