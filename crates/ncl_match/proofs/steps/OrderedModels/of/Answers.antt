use Rattle.ncl_match.proofs.StepLaws.{AddsModel, List, Model, ModelsLoop, Some, ap, length, models-end, models-few, models-more, models-none, refl, slice_get, slice_get_read, subst, sym, ℕ, ◌∙◌, ◌≡◌}
use Rattle.ncl_match.proofs.steps.OrderedModels.of.Goals as goal

pub loop-model-init : goal.loop-model-init
loop-model-init c =
    let n : ℕ = c.first_width-inputs.result in
    subst (λ steps. ModelsLoop n c.args.models.now steps c.in_ok-outputs.outputs.items 0) (sym c.new-steps.ensures.items)
    (models-none n c.args.models.now c.in_ok-outputs.outputs.items c.first_width-inputs.ensures c.in_ok-outputs.ensures)

pub add_model-requires-clause-ins : goal.add_model-requires-clause-ins
add_model-requires-clause-ins c =
    let models : List Model = c.args.models.now in
    let place : ℕ = c.loop-model.model-index in
    let at : slice_get models place ≡ Some c.model-item.result = slice_get_read models (length models) place c.model-item.result refl c.loop-model-test.true c.model-item.is in
    ap length c.deref.ensures.value ∙ c.loop-model.invariant.wide c.model-item.result at

pub add_model-requires-clause-few : goal.add_model-requires-clause-few
add_model-requires-clause-few c =
    let models : List Model = c.args.models.now in
    let place : ℕ = c.loop-model.model-index in
    let at : slice_get models place ≡ Some c.model-item.result = slice_get_read models (length models) place c.model-item.result refl c.loop-model-test.true c.model-item.is in
    models-few c.first_width-inputs.result models c.requires c.loop-model.steps.items c.loop-model.outputs.items place c.model-item.result at c.loop-model.invariant c.first_width-inputs.ensures

pub loop-model-preserved : goal.loop-model-preserved
loop-model-preserved c =
    let n : ℕ = c.first_width-inputs.result in
    let models : List Model = c.args.models.now in
    let place : ℕ = c.loop-model.model-index in
    let m : Model = c.model-item.result in
    let at : slice_get models place ≡ Some m = slice_get_read models (length models) place m refl c.loop-model-test.true c.model-item.is in
    models-more n models c.requires c.loop-model.steps.items c.loop-model.outputs.items place m at c.loop-model.invariant c.add_model.new.steps.items c.in_ok-outputs-2.outputs.items
    (subst (λ ins. AddsModel n c.loop-model.steps.items c.add_model.new.steps.items m ins c.in_ok-outputs-2.outputs.items) c.deref.ensures.value c.in_ok-outputs-2.ensures)

pub invariant_of-result : goal.invariant_of-result
invariant_of-result c =
    models-end c.first_width-inputs.result c.args.models.now c.loop-model.steps.items c.loop-model.outputs.items c.loop-model.model-index c.requires c.first_width-inputs.ensures c.loop-model-test.false c.loop-model.invariant
