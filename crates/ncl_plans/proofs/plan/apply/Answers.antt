use Rattle.ncl_plans.proofs.Terms.{Arg, List, Signal, Small, Step, [], ap, get_or, subst, sym, take, take_all, take_more, ◌++◌, ◌+◌, ◌∙◌, ◌∷◌, ◌≡◌}
use Rattle.ncl_plans.proofs.Plans.{no_step, IsArg, AreApplied, AreApplied-more, Adds-applied}
use Rattle.ncl_plans.proofs.plan.apply.Goals as goal

pub loop-step-preserved : goal.loop-step-preserved
loop-step-preserved c = λ inputs pool exist.
    let before : List Small = c.args.pool.now.smalls.items in
    let leaves : List Signal = c.args.leaves.items in
    let steps : List Step = c.deref-step-items.result.now in
    let all : steps ≡ c.args.plan.now.steps.items = c.deref-step-items.ensures.value in
    let i = c.loop-step.step-index in
    let step : Step = get_or steps i no_step in
    let signals : List Signal = c.loop-step.signals.items in
    let now : List Small = c.loop-step.pool.smalls.items in
    let first : IsArg signals step.first c.arg_signal-first.result = subst (λ s. IsArg s step.first c.arg_signal-first.result) c.deref.ensures.value (record { value = c.arg_signal-first.ensures.value; exists = c.arg_signal-first.ensures.exists }) in
    let second : IsArg signals step.second c.arg_signal-second.result = subst (λ s. IsArg s step.second c.arg_signal-second.result) c.deref-in-loop-step.ensures.value (record { value = c.arg_signal-second.ensures.value; exists = c.arg_signal-second.ensures.exists }) in
    let third : IsArg signals step.third c.arg_signal-third.result = subst (λ s. IsArg s step.third c.arg_signal-third.result) c.deref-in-loop-step-2.ensures.value (record { value = c.arg_signal-third.ensures.value; exists = c.arg_signal-third.ensures.exists }) in
    let applied : AreApplied inputs before leaves (take i steps) now signals = subst (λ s. AreApplied inputs before leaves (take i s) now signals) (sym all) (c.loop-step.invariant inputs pool exist) in
    let more : AreApplied inputs before leaves (take i steps ++ step ∷ []) c.add.new.pool.smalls.items c.push.new.self.items =
    AreApplied-more inputs before leaves (take i steps) now signals applied step c.arg_signal-first.result c.arg_signal-second.result c.arg_signal-third.result c.in_ok-signal.signal c.add.new.pool.smalls.items c.push.new.self.items first second third c.in_ok-signal.ensures c.in_ok-push.ensures.items in
    subst (λ s. AreApplied inputs before leaves (take (i + 1) s) c.add.new.pool.smalls.items c.push.new.self.items) all
    (subst (λ done. AreApplied inputs before leaves done c.add.new.pool.smalls.items c.push.new.self.items) (sym (take_more steps i no_step c.loop-step-test.true)) more)

pub returns : goal.returns
returns c = λ inputs pool exist.
    let before : List Small = c.args.pool.now.smalls.items in
    let leaves : List Signal = c.args.leaves.items in
    let steps : List Step = c.args.plan.now.steps.items in
    let out : Arg = c.args.plan.now.out in
    let now : List Small = c.loop-step.pool.smalls.items in
    let signals : List Signal = c.loop-step.signals.items in
    let whole : take c.loop-step.step-index steps ≡ steps =
    ap (take c.loop-step.step-index) (sym c.deref-step-items.ensures.value) ∙ take_all c.loop-step.step-index c.deref-step-items.result.now c.loop-step-test.false ∙ c.deref-step-items.ensures.value in
    let applied : AreApplied inputs before leaves steps now signals = subst (λ done. AreApplied inputs before leaves done now signals) whole (c.loop-step.invariant inputs pool exist) in
    Adds-applied inputs before leaves steps now signals applied out c.arg_signal.result (subst (λ s. IsArg s out c.arg_signal.result) c.deref-2.ensures.value (record { value = c.arg_signal.ensures.value; exists = c.arg_signal.ensures.exists }))
