use Rattle.ncl_space.proofs.Terms.{gate_table, map, plain_space}
use Rattle.ncl_space.proofs.RowLaws.{FillsTo}
use Rattle.ncl_space.proofs.plain.Plain.gate_row.Given as goal

abbrev pub invariant-loop-j : goal.invariant-loop-j
invariant-loop-j l = FillsTo l.row.items (gate_table l.fn.self.width l.fn.kind (map (plain_space l.fn.self).table l.fn.ins)) l.j
