use Rattle.ncl_verdict.proofs.Terms.{All, AreReaches, IsPart, List, WiringData, ap, arith, length, mask_at, subst, sym, ℕ, ◌*◌, ◌+◌, ◌-◌, ◌<◌, ◌∙◌, ◌≡◌}
use Rattle.ncl_verdict.proofs.Adding.{IsShown, reaches-next}
use Rattle.ncl_verdict.proofs.supports.spread.Goals as goal

pub add_outputs-requires-clause-outputs : goal.add_outputs-requires-clause-outputs
add_outputs-requires-clause-outputs c = subst (All (λ pair. (pair.0 < length c.args.masks.now) × (pair.1 < length c.args.masks.now))) (sym c.outputs.ensures) c.requires.outputs

pub loop-left-init : goal.loop-left-init
loop-left-init c = record {
  many = c.add_outputs.auto.reaches ∙ ap length c.requires.own;
  within = omega arith;
  are = record {
    own = c.add_outputs.ensures.own;
    outputs = subst (All (IsShown c.args.masks.now c.add_outputs.new.reaches)) c.outputs.ensures c.add_outputs.ensures.outputs;
    cells = λ cell from lt pin has. absurd (omega (arith, from, lt, c.requires.cells));
  };
}

pub add_at-requires : goal.add_at-requires
add_at-requires c =
    let left = c.loop-left.left - 1 in
    let before = c.requires.earlier left (omega (arith, c.loop-left.invariant.within, c.loop-left-test.true)) in
    subst (All (λ place. place < length c.loop-left.reaches)) (sym c.pins.ensures.pins)
    (λ k d lt. let less = before k d lt in omega (arith, less, c.loop-left.invariant.within, c.loop-left.invariant.many, c.requires.many, c.loop-left-test.true))

pub loop-left-preserved : goal.loop-left-preserved
loop-left-preserved c =
    let left : ℕ = c.loop-left.left - 1 in
    let more : c.loop-left.left ≡ left + 1 = omega (arith, c.loop-left-test.true) in
    let w : WiringData = c.args.wiring.now in
    let old : List ℕ = c.loop-left.reaches in
    let new : List ℕ = c.add_at.new.masks in
    let before = c.requires.earlier left (omega (arith, c.loop-left.invariant.within, c.loop-left-test.true)) in
    record {
      many = c.add_at.auto.masks ∙ c.loop-left.invariant.many;
      within = omega (arith, c.loop-left.invariant.within);
      are = reaches-next c.args.bits w c.args.masks.now old new left
          (subst (λ n. AreReaches n c.args.bits w c.args.masks.now old) more c.loop-left.invariant.are)
          c.add_at.ensures.grown
          (subst (All (λ place. IsPart (mask_at old (2 * c.args.bits + left)) (mask_at new place))) c.pins.ensures.pins c.add_at.ensures.added)
          (λ place after. c.add_at.ensures.others (2 * c.args.bits + left) (subst (All (λ p. p < 2 * c.args.bits + left)) (sym c.pins.ensures.pins) before) place after);
    }
