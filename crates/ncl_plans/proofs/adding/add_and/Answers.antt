use Rattle.ncl_plans.specs.declared.small.Op.TheVariants.{And}
use Rattle.ncl_plans.proofs.AddedOps.{put_op}
use Rattle.ncl_plans.proofs.adding.add_and.Goals as goal

pub returns : goal.returns
returns c = λ third.
    put_op And c.args.first c.args.second third c.and-form.result c.args.pool.now.smalls.items c.put.new.self.smalls.items c.put.result (c.and-form.ensures third) c.put.ensures
