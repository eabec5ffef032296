use Rattle.ncl_insensitivity.proofs.ByComputation.{at_the_end, quiet_by_cells, refl, wires_pipeline}
use Rattle.ncl_insensitivity.proofs.examples.word_through_wires.Goals as goal

pub returns-clause-quiet : goal.returns-clause-quiet
returns-clause-quiet c = quiet_by_cells wires_pipeline at_the_end 6 (refl, (refl, (refl, (refl, (refl, (refl, λ n. refl)))))) (λ bit. refl) (λ bit. refl) refl refl
