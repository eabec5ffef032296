use Rattle.ncl_space.specs.Functions.{rail_table}
use Rattle.ncl_space.proofs.RowLaws.{FillsTo}
use Rattle.ncl_space.proofs.plain.Plain.rail_row.Given as goal

abbrev pub invariant-loop-j : goal.invariant-loop-j
invariant-loop-j l = FillsTo l.row.items (rail_table l.fn.self.width l.fn.bit l.fn.value) l.j
