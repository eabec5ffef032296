use Rattle.ncl_template.proofs.Terms.{AreInner, [], ap, arith, drop, drop_more, gate_bit, inner_bits, length, nat_eq, not, subst, sym, ◌&&◌, ◌++◌, ◌+◌, ◌∙◌, ◌∷◌, ◌≡◌}
use Rattle.ncl_template.proofs.form.inner_bits.Goals as goal

pub loop-gate-preserved : goal.loop-gate-preserved
loop-gate-preserved c =
    let word = c.args.word.now in
    let bits = c.loop-gate.bits.items in
    let i = c.loop-gate.gate-index in
    let gate = c.gate-item.result in
    let rest = drop (i + 1) c.args.inner.now in
    let step : drop i c.args.inner.now ≡ gate ∷ rest = drop_more c.args.inner.now i gate c.loop-gate-test.true ∙ ap (λ g. g ∷ rest) (sym c.gate-item.is) in
    let left : AreInner (length word) i (gate ∷ rest) = subst (AreInner (length word) i) step c.loop-gate.invariant.left in
    let bit = subst (λ some. c.inner_bit-bit.result ≡ (not (nat_eq (length some) c.args.low) && gate_bit word c.args.null some gate)) c.as_slice.ensures.value c.inner_bit-bit.ensures in
    let items = c.push.ensures.items ∙ ap (λ b. bits ++ b ∷ []) bit in
    record {
      bits = ap (λ some. inner_bits word c.args.null c.args.low some rest) items ∙ sym (ap (inner_bits word c.args.null c.args.low bits) step) ∙ c.loop-gate.invariant.bits;
      left = left.1;
      count = omega (arith, c.push.ensures.len, c.loop-gate.invariant.count);
    }
