use Rattle.ncl_insensitivity.proofs.ByComputation.{holding_pipeline, quiet_by_cells, refl, where_holding_rests}
use Rattle.ncl_insensitivity.proofs.examples.held_word_goes_first.Goals as goal

pub returns-clause-quiet : goal.returns-clause-quiet
returns-clause-quiet c = quiet_by_cells holding_pipeline where_holding_rests 9 (refl, (refl, (refl, (refl, (refl, (refl, (refl, (refl, (refl, λ n. refl))))))))) (λ bit. refl) (λ bit. refl) refl refl
