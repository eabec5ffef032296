use Rattle.ncl_diagram.proofs.KeyLaws.{Walked}
use Rattle.ncl_diagram.proofs.keys.probe.Given as goal

abbrev pub invariant-walk : goal.invariant-walk
invariant-walk l = Walked l.fn.keys l.fn.buckets l.fn.round l.fn.key l.at
