use Rattle.std.proofs.Common.{◌≡◌, ◌+◌, sym, subst, arith}
use Rattle.ncl_demo.proofs.Joining.{Row, row_more, are_models, is_adder, can_be_compiled}
use Rattle.ncl_demo.proofs.models.demo_models.Goals as goal

pub loop-stage-preserved : goal.loop-stage-preserved
loop-stage-preserved c =
    let stage = c.loop-stage.stage in
    let served = c.in_ok-stage_model.ensures in
    subst (λ models. Row c.args.bits models (stage + 1)) (sym c.in_ok-push.ensures.items)
    (row_more c.args.bits c.loop-stage.models.items stage c.in_ok-stage_model.field-0 c.loop-stage.invariant
    (record { is_model = served.model; is_stage = served.stage; small = served.small }))

pub returns : goal.returns
returns c =
    let bits = c.args.bits in
    let all : c.loop-stage.stage ≡ bits = omega arith in
    let row = subst (Row bits c.loop-stage.models.items) all c.loop-stage.invariant in
    let models = c.loop-stage.models.items in record {
      models = are_models bits models c.requires.some c.requires.few row;
      adder = is_adder bits models c.requires.some c.requires.few row;
      small = can_be_compiled bits models c.requires.some c.requires.few row;
    }
