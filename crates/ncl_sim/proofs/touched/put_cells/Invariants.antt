use Rattle.ncl_sim.proofs.Terms.{Cell, CellAt, Contains, Grows, NetId, length, items_at, ℕ, ◌<◌, ◌≤◌}
use Rattle.ncl_sim.proofs.touched.put_cells.Given as goal

abbrev pub invariant-loop-k : goal.invariant-loop-k
invariant-loop-k l =
    ((count : ℕ) → length l.netlist.cells ≤ count → Grows count l.initial.table l.table)
    × ((j : ℕ) (c : Cell) → j < l.k → CellAt l.netlist j c → (pin : NetId) → Contains c.ins.items pin → Contains (items_at l.table pin.0) j)
