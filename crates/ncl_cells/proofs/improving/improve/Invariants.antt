use Rattle.ncl_cells.proofs.Terms.{IfSome, IsSameAs, IsSplit}
use Rattle.ncl_cells.proofs.improving.improve.Given as goal

abbrev pub invariant-rounds : goal.invariant-rounds
invariant-rounds l = record { split : IfSome l.current IsSplit; same : IfSome l.current (IsSameAs l.fn.network) }
