use Rattle.std.proofs.Common.{◌≡◌, ℕ, ◌+◌, ◌<◌, length, take, get_or, count_by, nat_eq}
use Rattle.ncl_netlist.proofs.drivers.count_cells.Given as goal

abbrev pub invariant-loop-cell : goal.invariant-loop-cell
invariant-loop-cell l =
    (net : ℕ) → net < length l.counts → get_or l.counts net 0 ≡ get_or l.initial.counts net 0 + count_by (λ cell. nat_eq cell.out.0 net) (take l.cell-index l.cells)
