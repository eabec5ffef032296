use Rattle.ncl_gates.proofs.Table.{IfSome-named, IfNone-named}
use Rattle.ncl_gates.proofs.kind.Kind.from_name.Goals as goal

pub returns-clause-some : goal.returns-clause-some
returns-clause-some c = IfSome-named c.args.name.now c.named.result c.named.ensures

pub returns-clause-none : goal.returns-clause-none
returns-clause-none c = IfNone-named c.args.name.now c.named.result c.named.ensures
