use Rattle.ncl_shape.proofs.RootLaws.{AreOnlyRoots}
use Rattle.ncl_shape.proofs.rooting.find_roots.Given as goal

abbrev pub invariant-loop-bank : goal.invariant-loop-bank
invariant-loop-bank l = AreOnlyRoots l.origins.netlist l.banks l.bank-index l.roots.items
