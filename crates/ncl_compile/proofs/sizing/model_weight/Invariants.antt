use Rattle.ncl_compile.proofs.Terms.{Cover, sum_by, take, weight_of_rows, ◌≡◌}
use Rattle.ncl_compile.proofs.sizing.model_weight.Given as goal

abbrev pub invariant-loop-cover : goal.invariant-loop-cover
invariant-loop-cover l = l.weight ≡ sum_by (λ (cover : Cover). weight_of_rows cover.rows) (take l.cover-index l.cover-items)
