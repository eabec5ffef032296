use Rattle.ncl_reaching.proofs.Terms.{List, StageCell, ap, get_or, holds, length, length-set, subst, sym, value_in, ◌<◌, ◌∙◌, ◌≡◌}
use Rattle.ncl_reaching.proofs.EvaluatingLaws.{evaluated-turn}
use Rattle.ncl_reaching.proofs.evaluating.evaluate.Goals as goal

pub loop-gate-preserved : goal.loop-gate-preserved
loop-gate-preserved c =
    let g : StageCell = c.gate-item.result in
    let i = c.loop-gate.gate-index in
    let gates : List StageCell = c.args.gates.now in
    let now = c.loop-gate.values.items in
    let at : g ≡ get_or gates i g = c.gate-item.is in
    let within : g.out.0 < length now =
    subst (λ n. g.out.0 < n) (sym c.loop-gate.invariant.many) (subst (λ (x : StageCell). x.out.0 < length c.args.values.now.items) (sym at) (c.requires.within i g c.loop-gate-test.true)) in
    record {
      many = length-set now g.out.0 c.is_set-high.result ∙ c.loop-gate.invariant.many;
      values = evaluated-turn c.args.values.now.items now gates i g c.loop-gate-test.true at within c.is_set-high.result
          (c.is_set-high.ensures ∙ ap (λ xs. holds (value_in xs) g) c.as_slice.ensures.value) c.loop-gate.invariant.values;
    }
