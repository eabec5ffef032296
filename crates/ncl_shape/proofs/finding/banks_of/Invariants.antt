use Rattle.ncl_shape.proofs.Terms.{AllZip, IsFewBitBank, length, requests_of, take, ◌≡◌}
use Rattle.ncl_shape.proofs.finding.banks_of.Given as goal

abbrev pub invariant-loop-list : goal.invariant-loop-list
invariant-loop-list l =
    (length l.banks.items ≡ length l.yielded)
    × AllZip (IsFewBitBank l.netlist) (take (length l.yielded) (requests_of l.chain)) l.banks.items
