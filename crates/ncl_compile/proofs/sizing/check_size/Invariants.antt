use Rattle.ncl_compile.proofs.Terms.{IsSlim, Model, Some, slice_get, ℕ, ◌<◌, ◌≡◌}
use Rattle.ncl_compile.proofs.sizing.check_size.Given as goal

abbrev pub invariant-loop-before : goal.invariant-loop-before
invariant-loop-before l = (k : ℕ) (model : Model) → k < l.before → slice_get l.models k ≡ Some model → IsSlim model
