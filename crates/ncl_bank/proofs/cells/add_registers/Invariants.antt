use Rattle.ncl_bank.proofs.Terms.{length, take, zip}
use Rattle.ncl_bank.proofs.Named.{IsAdded}
use Rattle.ncl_bank.proofs.Zipped.{registers_of}
use Rattle.ncl_bank.proofs.cells.add_registers.Given as goal

-- the cells of the pairs so far
abbrev pub invariant-loop-from : goal.invariant-loop-from
invariant-loop-from l = IsAdded l.prefix l.initial.cells.items (registers_of l.request l.rst (take (length l.yielded) (zip l.ins l.outs))) l.cells.items
