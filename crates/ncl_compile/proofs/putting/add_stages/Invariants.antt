use Rattle.ncl_compile.proofs.Terms.{StageParts, flat_map, ◌++◌, ◌≡◌}
use Rattle.ncl_compile.proofs.putting.add_stages.Given as goal

abbrev pub invariant-loop-stage : goal.invariant-loop-stage
invariant-loop-stage l = l.cells.items ≡ l.initial.cells.items ++ flat_map (λ (stage : StageParts). stage.cells) l.yielded
