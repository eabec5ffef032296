use Rattle.ncl_compile.proofs.Terms.{AreStages, IsModel, IsSlim, arith, subst, sym, take, take_all, ◌+◌}
use Rattle.ncl_compile.proofs.PieceLaws.{AreStages-more}
use Rattle.ncl_compile.proofs.stages.stages_of.Goals as goal

pub loop-number-preserved : goal.loop-number-preserved
loop-number-preserved c =
    let more = AreStages-more c.args.models.now c.loop-number.number c.index-models-number.result c.loop-number.stages.items c.in_ok-stage.stage (omega arith) c.index-models-number.is c.loop-number.invariant c.in_ok-stage.ensures in
    subst (AreStages (take (c.loop-number.number + 1) c.args.models.now)) (sym c.in_ok-push.ensures.items) more

pub stage_of-requires-clause-is_model : goal.stage_of-requires-clause-is_model
stage_of-requires-clause-is_model c = subst IsModel (sym c.index-models-number.is) (c.requires.are_models c.loop-number.number c.index-models-number.result c.loop-number-test.true)

pub stage_of-requires-clause-slim : goal.stage_of-requires-clause-slim
stage_of-requires-clause-slim c = subst IsSlim (sym c.index-models-number.is) (c.requires.slim c.loop-number.number c.index-models-number.result c.loop-number-test.true)

pub returns : goal.returns
returns c = subst (λ models. AreStages models c.loop-number.stages.items) (take_all c.loop-number.number c.args.models.now c.loop-number-test.false) c.loop-number.invariant
