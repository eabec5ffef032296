use Rattle.ncl_plans.specs.declared.small.Op.TheVariants.{Differ}
use Rattle.ncl_plans.proofs.AddedOps.{put_op}
use Rattle.ncl_plans.proofs.adding.add_differ.Goals as goal

pub returns : goal.returns
returns c = λ third.
    put_op Differ c.args.first c.args.second third c.differ-form.result c.args.pool.now.smalls.items c.put.new.self.smalls.items c.put.result (c.differ-form.ensures third) c.put.ensures
