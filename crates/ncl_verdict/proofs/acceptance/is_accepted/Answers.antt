use Rattle.ncl_verdict.proofs.Terms.{IfOk, IsWithin, None, ReadyData, StageData, of_stage, sound_from_observed, stopped_at, subst, sym, true, ◌∙◌, ◌≡◌}
use Rattle.ncl_verdict.proofs.Accepting.{sound-none}
use Rattle.ncl_verdict.proofs.InSpaceLaws.{ready-restored}
use Rattle.ncl_verdict.proofs.Sound.{base-valid}
use Rattle.ncl_verdict.proofs.acceptance.is_accepted.Goals.{in-Ok, in-Err-Full, in-Err-Memory}
use Rattle.ncl_verdict.proofs.acceptance.is_accepted.Goals as goal

pub invariant_of-ready : goal.invariant_of-ready
invariant_of-ready c = record {
  some = c.ready.invariant.some;
  same_limit = c.all_observed.ensures.back.keeps.limit ∙ c.ready.invariant.same_limit;
  ready = ready-restored _ _ c.ready.inside.stage.now c.ready.inside.base c.all_observed.ensures.back c.ready.invariant.ready;
  nothing = c.ready.invariant.nothing;
}

pub returns-clause-accepted : goal.returns-clause-accepted
returns-clause-accepted c =
    let s : StageData = c.ready.inside.stage.now in
    let limit = c.ready.inside.limit in
    subst (λ (r : ReadyData). IfOk c.match-all_observed.result (λ answer. answer ≡ true → of_stage (stopped_at r.limit) r.stage ≡ None)) c.ready.view_is
    (let within : IsWithin limit s = subst (λ (r : ReadyData). IsWithin r.limit r.stage) (sym c.ready.view_is) (c.in_ok-few.ensures c.if-not-few.false) in
    elim c.match-all_observed.branch [
      | in-Ok w ↦ subst (λ r. IfOk r (λ answer. answer ≡ true → of_stage (stopped_at limit) s ≡ None)) (sym w.result-is)
          (λ e. sound-none limit s (sound_from_observed s c.facts.ensures (base-valid (stopped_at limit) s c.ready.invariant.nothing) (w.in-Ok.ensures.observed e)) within)
      | in-Err-Full w ↦ subst (λ r. IfOk r (λ answer. answer ≡ true → of_stage (stopped_at limit) s ≡ None)) (sym w.result-is) (λ e. absurd cc)
      | in-Err-Memory w ↦ subst (λ r. IfOk r (λ answer. answer ≡ true → of_stage (stopped_at limit) s ≡ None)) (sym w.result-is) tt
    ])
