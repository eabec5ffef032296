use Rattle.ncl_verdict.proofs.Terms.{Covers, sum_by, take, weight_of}
use Rattle.ncl_verdict.proofs.few.net_weights.Given as goal

abbrev pub invariant-loop-mask : goal.invariant-loop-mask
invariant-loop-mask l = Covers (sum_by weight_of (take l.mask-index l.masks)) l.sum
