use Rattle.ncl_compile.proofs.Terms.{Model, ap, arith, length, sum_by, take_all, weight_of_model, ◌-◌}
use Rattle.ncl_compile.proofs.SizeLaws.{units_of, compile_size-is, model-small, units-small}
use Rattle.ncl_compile.proofs.sizing.total_size.Goals as goal

pub model_weight-requires : goal.model_weight-requires
model_weight-requires c =
    let small = model-small c.args.models.now c.requires c.loop-model.model-index c.model-item.result (omega arith) in
    let here = ap weight_of_model c.model-item.is in
    omega (arith, small, here)

pub overflow_add-size : goal.overflow_add-size
overflow_add-size c =
    let small = model-small c.args.models.now c.requires c.loop-model.model-index c.model-item.result (omega arith) in
    let here = ap units_of c.model-item.is in
    grind (arith, small, here)

pub overflow_add-size-in-loop-model : goal.overflow_add-size-in-loop-model
overflow_add-size-in-loop-model c =
    let models = c.args.models.now in
    let last = model-small models c.requires (length models - 1) c.index-models-models.result (omega arith) in
    let outputs = ap (λ (m : Model). length m.outputs) c.index-models-models.is in
    let asked = ap length c.items-size.ensures in
    let units = units-small models c.requires c.loop-model.model-index c.model-item.result (omega arith) in
    let here = ap units_of c.model-item.is in
    let inputs = ap length c.items.ensures in
    omega (arith, last, outputs, asked, units, here, inputs)

pub returns : goal.returns
returns c =
    let models = c.args.models.now in
    let outputs = ap (λ (m : Model). length m.outputs) c.index-models-models.is in
    let asked = ap length c.items-size.ensures in
    let all = ap (sum_by units_of) (take_all c.loop-model.model-index models (omega arith)) in
    let whole = compile_size-is models c.requires c.index-models-models.result in
    omega (arith, outputs, asked, all, whole)
