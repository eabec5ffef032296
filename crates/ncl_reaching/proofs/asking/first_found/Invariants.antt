use Rattle.ncl_reaching.proofs.Terms.{None, Restores, Variant, diagram_space, first_at, get_or, inputs_of_chain, ℕ, ◌<◌, ◌≡◌}
use Rattle.ncl_reaching.proofs.asking.first_found.Given as goal

-- the space is as it was, and no input shows a fault at the variants so far
abbrev pub invariant-loop-variant : goal.invariant-loop-variant
invariant-loop-variant l = record {
  back : Restores (diagram_space l.fn.space) (diagram_space l.space);
  none : (k : ℕ) → k < l.variant-index → (d : Variant) → first_at (inputs_of_chain l.ending.base.now.wiring.order l.ending.chain.now l.ending.stage.now) l.ending.stage.now (get_or l.variants k d) ≡ None;
}
