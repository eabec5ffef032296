use Rattle.ncl_cell_rules.proofs.FirstRegisters.{AreFirstsOf}
use Rattle.ncl_cell_rules.proofs.first_registers.first_registers.Given as goal

abbrev pub invariant-loop-place : goal.invariant-loop-place
invariant-loop-place l = AreFirstsOf l.netlist l.place l.firsts.items
