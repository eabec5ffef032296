use Rattle.ncl_verdict.proofs.Terms.{Covers, lost_data, take, union, weight_lost, ◌≡◌}
use Rattle.ncl_verdict.proofs.few.lost_weight.Given as goal

-- the outputs so far
abbrev pub invariant-loop-pair : goal.invariant-loop-pair
invariant-loop-pair l = record {
  all : l.all ≡ union (lost_data l.masks l.lost (take l.pair-index l.outputs));
  sum : Covers (weight_lost l.masks (take l.pair-index l.outputs) l.lost) l.sum;
}
