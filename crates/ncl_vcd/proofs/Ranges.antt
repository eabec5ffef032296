-- The items of a run are those of the pipeline.
use Rattle.ncl_vcd.proofs.Terms.{All, Fired, InRange, IsRunFrom, List, PipelineData, State, [], arith, item_in_range, items_in, step, suc, zero, ◌∷◌}

pub run-range : (p : PipelineData) (s : State) (steps : List Fired) → IsRunFrom p s (items_in steps) → All (λ (f : Fired). InRange p f.item) steps
run-range p s [] run k d lt = absurd (omega arith)
run-range p s (f ∷ steps) run zero d lt = item_in_range p s f.item run.0
run-range p s (f ∷ steps) run (suc k) d lt = run-range p (step p s f.item) steps run.1 k d (omega arith)
