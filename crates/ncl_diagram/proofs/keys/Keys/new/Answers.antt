use Rattle.ncl_diagram.proofs.KeyLaws.{table_none}
use Rattle.ncl_diagram.proofs.keys.Keys.new.Goals as goal

pub invariant_of-result : goal.invariant_of-result
invariant_of-result c = rw (c.new.ensures.items, c.new-2.ensures.items) table_none
