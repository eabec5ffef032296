use Rattle.ncl_shape.specs.ChainSteps.{numbers_of}
use Rattle.ncl_shape.proofs.BankNumbers.{AreNumbersBelow}
use Rattle.ncl_shape.proofs.walking.numbers.Given as goal

abbrev pub invariant-loop-place : goal.invariant-loop-place
invariant-loop-place l = AreNumbersBelow l.netlist (numbers_of l.banks) l.place l.numbers.items
