use Rattle.ncl_match.proofs.BitLaws.{Circuit, Err, List, Model, PipelineData, SpaceData, ap, apart_function, arith, circuit_of, diagram_space, few_inputs, length, table_of, told-over, told-within, words, ◌∙◌, ◌≡◌}
use Rattle.ncl_match.proofs.bits.BitsCompareBit.compare_bit.Goals as goal

pub new-space-requires-clause-few : goal.new-space-requires-clause-few
new-space-requires-clause-few c =
    let few = few_inputs c.pipeline-pipeline.result.now c.facts.ensures in
    let many : length c.inputs.result.now ≡ length c.pipeline-pipeline.result.now.inputs = ap length c.inputs.ensures.inputs in
    omega (arith, few, many)

pub returns-in-Ok : goal.returns-in-Ok
returns-in-Ok c =
    let circuit : Circuit = circuit_of c.args.sides.now.pipeline in
    let models : List Model = c.args.sides.now.models in
    let old : SpaceData = diagram_space c.new-space.result in
    let now : SpaceData = diagram_space c.difference.new.space in
    let h = c.in-Ok.ensures.apart in
    let wide : old.width ≡ length circuit.inputs = c.new-space.ensures.width ∙ ap length (c.inputs.ensures.inputs ∙ ap (λ (p : PipelineData). p.inputs) c.pipeline-pipeline.ensures) in
    let now_wide : now.width ≡ length circuit.inputs = c.in-Ok.ensures.kept.width ∙ wide in
    c.told.ensures circuit models c.args.limit c.args.bit h.f h.g c.requires.models.each h.are now_wide
    (h.has.table ∙ ap (λ n. table_of (words n) (apart_function h.f h.g)) now_wide)
    (told-within circuit models c.args.limit c.args.bit old now c.new-space.ensures.new c.new-space.ensures.limit wide c.in-Ok.ensures.kept c.in-Ok.ensures.gathers c.in-Ok.ensures.whole)

pub returns-in-Err-Full : goal.returns-in-Err-Full
returns-in-Err-Full c =
    let circuit : Circuit = circuit_of c.args.sides.now.pipeline in
    let old : SpaceData = diagram_space c.new-space.result in
    let wide : old.width ≡ length circuit.inputs = c.new-space.ensures.width ∙ ap length (c.inputs.ensures.inputs ∙ ap (λ (p : PipelineData). p.inputs) c.pipeline-pipeline.ensures) in
    told-over circuit c.args.sides.now.models c.args.limit c.args.bit old c.new-space.ensures.new c.new-space.ensures.limit wide (c.in-Err-Full.ensures.full (ap Err c.in-Err-Full.field-0-is))
