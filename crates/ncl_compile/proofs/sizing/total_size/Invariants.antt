use Rattle.ncl_compile.proofs.Terms.{Model, length, sum_by, take, weight_of_model, ◌+◌, ◌≡◌}
use Rattle.ncl_compile.proofs.sizing.total_size.Given as goal

abbrev pub invariant-loop-model : goal.invariant-loop-model
invariant-loop-model l = l.size ≡ l.initial.size + sum_by (λ (model : Model). weight_of_model model + length model.inputs) (take l.model-index l.models)
