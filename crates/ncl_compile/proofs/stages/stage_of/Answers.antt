use Rattle.ncl_compile.proofs.Terms.{AreStageParts, CanBeStage, IfOk-weaker, IsStageOfModel, ap, arith, inner_pairs, length, stage_prefix, subst, sym, ◌∙◌, ◌≡◌}
use Rattle.std.specs.Result.{IfOk}
use Rattle.ncl_compile.proofs.CallLaws.{stage_can}
use Rattle.ncl_compile.proofs.stages.stage_of.Goals as goal

pub stage_named-requires-clause-can : goal.stage_named-requires-clause-can
stage_named-requires-clause-can c =
    let narrow = c.in_ok-narrow.narrow in
    let is = c.in_ok-narrow.ensures in
    let width = length c.args.model.now.inputs in
    let inputs : narrow.inputs ≡ width = is.inputs ∙ c.in_ok-folded.ensures.inputs in
    let outputs : length narrow.outputs ≡ length c.args.model.now.outputs = is.outputs ∙ c.in_ok-folded.ensures.outputs in
    let can = stage_can c.args.number width narrow (omega arith) c.requires.slim.0 c.requires.is_model.has_input inputs (omega (arith, outputs)) (omega (arith, outputs)) is.network in
    subst (λ n. CanBeStage narrow (inner_pairs c.args.number n) (stage_prefix c.args.number)) (sym (ap length c.items.ensures)) can

pub returns : goal.returns
returns c =
    let narrow = c.in_ok-narrow.narrow in
    let is = c.in_ok-narrow.ensures in
    let width = length c.args.model.now.inputs in
    IfOk-weaker c.stage_named.result (AreStageParts narrow (inner_pairs c.args.number width) (stage_prefix c.args.number)) (IsStageOfModel c.args.model.now (inner_pairs c.args.number width) (stage_prefix c.args.number))
    (λ parts are. record {
      network = narrow;
      inputs = is.inputs ∙ c.in_ok-folded.ensures.inputs;
      outputs = is.outputs ∙ c.in_ok-folded.ensures.outputs;
      same = λ word answer gives. c.in_ok-folded.ensures.same word answer gives ∙ sym (is.same word);
      cost = let cheap = is.cost in let light = c.in_ok-folded.ensures.weight in omega (arith, cheap, light);
      are = are;
    })
    (subst (λ n. IfOk c.stage_named.result (AreStageParts narrow (inner_pairs c.args.number n) (stage_prefix c.args.number))) (ap length c.items.ensures) c.stage_named.ensures)
