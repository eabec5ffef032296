use Rattle.ncl_diagram.specs.Keys.{ArePut}
use Rattle.ncl_diagram.proofs.keys.filled.Given as goal

abbrev pub invariant-filling : goal.invariant-filling
invariant-filling l = ArePut l.fn.keys l.index l.buckets.items l.fn.round
