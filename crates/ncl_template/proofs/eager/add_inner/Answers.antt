use Rattle.ncl_template.proofs.Terms.{AddsGate, AddsInner, AreInner, IsGateOf, ap, arith, drop, drop_all, drop_more, length, more, none, subst, sym, ◌+◌, ◌∙◌, ◌∷◌, ◌≡◌}
use Rattle.ncl_template.proofs.eager.add_inner.Goals as goal

pub loop-gate-preserved : goal.loop-gate-preserved
loop-gate-preserved c =
    let ins = c.args.ins.now in
    let nets = c.loop-gate.nets.items in
    let i = c.loop-gate.gate-index in
    let gate = c.gate-item.result in
    let left = drop (i + 1) c.args.inner.now in
    let net = c.in_ok-net.net in
    let before = c.loop-gate.gates.cells in
    let now = c.add_gate.new.gates.cells in
    let step : drop i c.args.inner.now ≡ gate ∷ left = drop_more c.args.inner.now i gate c.loop-gate-test.true ∙ ap (λ g. g ∷ left) (sym c.gate-item.is) in
    let are : AreInner (length ins) i (gate ∷ left) = subst (AreInner (length ins) i) step c.loop-gate.invariant.left in
    let adds : AddsGate (IsGateOf ins nets gate) before now net = subst (λ some. AddsGate (IsGateOf ins some gate) before now net) c.as_slice.ensures.value c.in_ok-net.ensures.gate in
    record {
      rest = λ after all rest.
          c.loop-gate.invariant.rest after all
          (subst (λ gates. AddsInner ins nets gates before after all) (sym step) (more nets gate left before now after net all adds (subst (λ some. AddsInner ins some left now after all) c.push.ensures.items rest)));
      left = are.1;
      count = omega (arith, c.push.ensures.len, c.loop-gate.invariant.count);
      few = omega (arith, c.in_ok-net.ensures.few, c.loop-gate.invariant.few);
      first = c.in_ok-net.ensures.first ∙ c.loop-gate.invariant.first;
    }

pub returns-clause-inner : goal.returns-clause-inner
returns-clause-inner c =
    let nets = c.loop-gate.nets.items in
    let cells = c.loop-gate.gates.cells in
    c.loop-gate.invariant.rest cells nets (subst (λ gates. AddsInner c.args.ins.now nets gates cells cells nets) (sym (drop_all c.loop-gate.gate-index c.args.inner.now (omega (arith, c.loop-gate-test.false)))) (none nets cells))
