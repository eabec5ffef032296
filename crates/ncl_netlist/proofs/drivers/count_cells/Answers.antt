use Rattle.ncl_netlist.proofs.Terms.{Cell, List, arith, get_or, length, take, ℕ, ◌+◌, ◌<◌, ◌≡◌}
use Rattle.std.proofs.Common.{count_by, nat_eq, set}
use Rattle.std.proofs.lemmas.Grind.{common_steps}
use Rattle.std.proofs.Math.ListN.{length-set}
use Rattle.ncl_netlist.proofs.drivers.count_cells.Goals as goal

-- one cell more is counted
counted_more : (counts : List ℕ) (was : ℕ) (cells : List Cell) (i : ℕ) (c : Cell) (net : ℕ) → i < length cells → c ≡ get_or cells i c → net < length counts → get_or counts net 0 ≡ was + count_by (λ cell. nat_eq cell.out.0 net) (take i cells)
    → get_or (set counts c.out.0 (get_or counts c.out.0 0 + 1)) net 0 ≡ was + count_by (λ cell. nat_eq cell.out.0 net) (take (i + 1) cells)
counted_more counts was cells i c net lt is within so_far = grind (arith, common_steps)

pub loop-cell-preserved : goal.loop-cell-preserved
loop-cell-preserved c = λ net lt.
    let counts = c.loop-cell.counts in
    let item = c.cell-item.result in
    let same = length-set counts item.out.0 (get_or counts item.out.0 0 + 1) in
    counted_more counts _ c.args.cells.now c.loop-cell.cell-index item net c.loop-cell-test.true c.cell-item.is (omega (arith, lt, same)) (c.loop-cell.invariant net (omega (arith, lt, same)))
