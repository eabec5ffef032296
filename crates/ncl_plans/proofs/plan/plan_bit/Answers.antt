use Rattle.ncl_plans.proofs.Terms.{Bool, List, Step, [], ap, get_or, step_value, step_values, subst, sym, take, ◌++◌, ◌+◌, ◌∙◌, ◌∷◌, ◌≡◌}
use Rattle.ncl_plans.proofs.Plans.{no_step, step_values-more}
use Rattle.ncl_plans.proofs.plan.plan_bit.Goals as goal

pub loop-step-preserved : goal.loop-step-preserved
loop-step-preserved c =
    let steps : List Step = c.deref-step-items.result.now in
    let all : steps ≡ c.args.plan.now.steps.items = c.deref-step-items.ensures.value in
    let bits : List Bool = c.args.leaves.items in
    let i = c.loop-step.step-index in
    let now : List Bool = c.loop-step.bits.items in
    let step : Step = get_or steps i no_step in
    let here : c.step_bit-bit.result ≡ step_value now step = c.step_bit-bit.ensures ∙ ap (λ b. step_value b step) c.deref.ensures.value in
    let pushed : c.push.new.self.items ≡ now ++ step_value now step ∷ [] = c.in_ok-push.ensures.items ∙ (λ j. now ++ here j ∷ []) in
    let before : now ≡ step_values bits (take i steps) = c.loop-step.invariant ∙ ap (λ s. step_values bits (take i s)) (sym all) in
    subst (λ s. c.push.new.self.items ≡ step_values bits (take (i + 1) s)) all
    (step_values-more bits steps i no_step now c.push.new.self.items c.loop-step-test.true before pushed)
