use Rattle.ncl_decomp.proofs.Terms.{IsSameSum, count_by, has, length, take, under, ◌++◌, ◌≡◌}
use Rattle.ncl_decomp.proofs.factoring.parted.Given as goal

abbrev pub invariant-loop-product : goal.invariant-loop-product
invariant-loop-product l =
    record {
      same : IsSameSum (take l.product-index l.sum) (l.others.items ++ under l.literal l.rests.items);
      having : length l.rests.items ≡ count_by (has l.literal) (take l.product-index l.sum);
    }
