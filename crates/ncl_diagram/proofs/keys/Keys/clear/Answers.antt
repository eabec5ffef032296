use Rattle.std.proofs.Common.{◌+◌, arith}
use Rattle.ncl_diagram.proofs.KeyLaws.{table_cleared}
use Rattle.ncl_diagram.proofs.keys.Keys.clear.Goals as goal

pub invariant_of-self-else-self : goal.invariant_of-self-else-self
invariant_of-self-else-self c =
    rw c.truncate.ensures.items
    (table_cleared c.self.inside.buckets.items (c.self.inside.round + 1) (λ at b g. let le = c.self.invariant.put.latest at b g in omega arith) (omega arith))
