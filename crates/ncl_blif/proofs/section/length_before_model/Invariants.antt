use Rattle.ncl_blif.proofs.Terms.{begins_model, drop, not, prefix_len, ◌+◌, ◌≡◌}
use Rattle.ncl_blif.proofs.section.length_before_model.Given as goal

abbrev pub invariant-loop-count : goal.invariant-loop-count
invariant-loop-count l = prefix_len (λ part. not (begins_model part)) l.parts ≡ l.count + prefix_len (λ part. not (begins_model part)) (drop l.count l.parts)
