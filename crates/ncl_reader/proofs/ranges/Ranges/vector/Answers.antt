use Rattle.ncl_reader.proofs.Kept.{rules, vector-found}
use Rattle.ncl_reader.proofs.ranges.Ranges.vector.Goals as goal

pub returns : goal.returns
returns c = vector-found c.args.self.now c.args.name.now _ (search rules)
