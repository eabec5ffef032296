use Rattle.ncl_netlist.proofs.Terms.{Bool, List, Port, [], arith, drives, false, if◌then◌else◌, map, slice_index, suc, true, zero, ℕ, ◌∷◌, ◌≤◌}
use Rattle.ncl_netlist.proofs.drivers.count_drivers.Goals as goal

small : (ports : List Port) (net : ℕ) → slice_index (map drives ports) net ≤ 1
small [] net = omega arith
small (p ∷ ports) zero = one p.output
  where
    one : (b : Bool) → (if b then 0 else 1) ≤ 1
    one true = omega arith
    one false = omega arith
small (p ∷ ports) (suc net) = small ports net

pub count_cells-requires-clause-small : goal.count_cells-requires-clause-small
count_cells-requires-clause-small c = λ net.
    rw c.deref_mut.ensures.value (rw (c.in_ok-counts.ensures.counts net) (small c.args.ports.now net))
