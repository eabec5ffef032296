use Rattle.ncl_stage.proofs.Terms.{All, IsShown, List, arith, false, get_or, length, length-set, set, subst, sym, take, take_all, true, ℕ, ◌+◌, ◌<◌, ◌∙◌, ◌≡◌, ◌≤◌}
use Rattle.ncl_stage.proofs.ObservingLaws.{shown-next}
use Rattle.ncl_stage.proofs.observing.output_marks.Goals as goal

pub loop-pair-preserved : goal.loop-pair-preserved
loop-pair-preserved c =
    let marks = c.loop-pair.marks.items in
    let outputs : List (ℕ × ℕ) = c.outputs-pair-items.result.now in
    record {
      many = length-set (set marks (get_or outputs c.loop-pair.pair-index (0, 0)).0 true) (get_or outputs c.loop-pair.pair-index (0, 0)).1 true ∙ length-set marks (get_or outputs c.loop-pair.pair-index (0, 0)).0 true ∙ c.loop-pair.invariant.many;
      shown = subst (λ xs. (place : ℕ) → get_or (set (set marks (get_or outputs c.loop-pair.pair-index (0, 0)).0 true) (get_or outputs c.loop-pair.pair-index (0, 0)).1 true) place false ≡ true → IsShown (take (c.loop-pair.pair-index + 1) xs) place) c.outputs-pair-items.ensures
          (shown-next outputs c.loop-pair.pair-index (0, 0) c.loop-pair-test.true marks (subst (λ xs. (place : ℕ) → get_or marks place false ≡ true → IsShown (take c.loop-pair.pair-index xs) place) (sym c.outputs-pair-items.ensures) c.loop-pair.invariant.shown));
    }

pub index_mut-requires : goal.index_mut-requires
index_mut-requires c =
    let within = subst (All (λ (pair : ℕ × ℕ). (pair.0 < c.args.count) × (pair.1 < c.args.count))) (sym c.outputs-pair-items.ensures) c.requires c.loop-pair.pair-index (0, 0) c.loop-pair-test.true in
    omega (arith, within.0, c.loop-pair.invariant.many)

pub index_mut-requires-in-loop-pair : goal.index_mut-requires-in-loop-pair
index_mut-requires-in-loop-pair c =
    let within = subst (All (λ (pair : ℕ × ℕ). (pair.0 < c.args.count) × (pair.1 < c.args.count))) (sym c.outputs-pair-items.ensures) c.requires c.loop-pair.pair-index (0, 0) c.loop-pair-test.true in
    omega (arith, within.1, c.loop-pair.invariant.many)

pub returns-clause-shown : goal.returns-clause-shown
returns-clause-shown c = λ place high.
    subst (λ outputs. IsShown outputs place) (take_all c.loop-pair.pair-index c.args.wiring.now.outputs (subst (λ xs. length xs ≤ c.loop-pair.pair-index) c.outputs-pair-items.ensures c.loop-pair-test.false)) (c.loop-pair.invariant.shown place high)
