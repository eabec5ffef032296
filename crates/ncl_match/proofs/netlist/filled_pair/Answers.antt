use Rattle.ncl_match.proofs.NetlistLaws.{All, AllPairs, AreDone, Bool, DataCell, Err, FitPins, HasRail, HaveInputs, IsCase, IsOrdered, List, Nets, Pair, PipelineData, Rails, Shape, SpaceData, ap, cells-gather, cells-over, circuit_of, closed, false, fits, gathered, get_or, get_or_from_slice_get, inputs-case, inputs-differ, inputs-over, laid_out_of, length, nets-held, no_rails, ones-within, output-within, pair_at, plan-fits, plan-ordered, plan_of, plan_tables, rail-had, rail_nets, refused-rail, rules, slice_get-get_or, subst, sym, zeros-within, ℕ, ◌<◌, ◌∙◌, ◌≡◌, ◌≢◌}
use Rattle.ncl_match.proofs.netlist.filled_pair.Goals as goal

-- the values of the nets
abbrev values : PipelineData → List Bool → Nets
values p word net = closed (circuit_of p) word net

-- the rails of the inputs by a list that is theirs
with_inputs : (old now : SpaceData) (bits inputs : List Rails) (marks : List Bool) (pairs : List Pair) → bits ≡ inputs → HaveInputs old now bits marks pairs (length bits) → HaveInputs old now inputs marks pairs (length inputs)
with_inputs old now bits inputs marks pairs same have = subst (λ xs. HaveInputs old now xs marks pairs (length xs)) same have

pub input_pairs-requires : goal.input_pairs-requires
input_pairs-requires g c =
    let p : PipelineData = c.args.planned.now in
    let bits_are : c.inputs.result.now ≡ p.inputs = c.inputs.ensures.inputs ∙ ap (λ (q : PipelineData). q.inputs) c.pipeline-pipeline.ensures in
    let (l, is) = laid_out_of p.netlist p (subst (λ (q : PipelineData). Shape q.netlist q) c.pipeline-pipeline.ensures c.facts.ensures) in
    let many : length p.netlist.nets ≡ length c.args.pairs.now = sym c.requires.marks.are.many ∙ c.requires.many in
    record {
      width = search rules;
      differ = subst (λ bits. AllPairs (λ (x y : ℕ). x ≢ y) (rail_nets bits)) (sym bits_are) (inputs-differ is);
      zeros = subst (All (λ (r : Rails). r.zero.0 < length c.args.pairs.now)) (sym bits_are) (subst (λ n. All (λ (r : Rails). r.zero.0 < n) p.inputs) many (zeros-within is));
      ones = subst (All (λ (r : Rails). r.one.0 < length c.args.pairs.now)) (sym bits_are) (subst (λ n. All (λ (r : Rails). r.one.0 < n) p.inputs) many (ones-within is));
      marks = search rules;
      pairs = search rules;
    }

pub returns-in_err-input_pairs-clause-made : goal.returns-in_err-input_pairs-clause-made
returns-in_err-input_pairs-clause-made g c =
    let p : PipelineData = c.args.planned.now in
    let bits_are : c.inputs.result.now ≡ p.inputs = c.inputs.ensures.inputs ∙ ap (λ (q : PipelineData). q.inputs) c.pipeline-pipeline.ensures in
    let (l, is) = laid_out_of p.netlist p (subst (λ (q : PipelineData). Shape q.netlist q) c.pipeline-pipeline.ensures c.facts.ensures) in
    let old : SpaceData = g.P.Space.meaning c.args.space.now in
    refused-rail old (g.P.Space.meaning c.input_pairs.new.space) (circuit_of p) c.args.output c.from_residual.result c.in_err-input_pairs.field-0.0 c.from_residual.ensures.1
    (λ models e. inputs-over is c.args.output c.args.marks.now c.requires.marks models old c.inputs.result.now c.requires.width bits_are (c.in_err-input_pairs.ensures.full (ap Err e)))

pub plan_pairs-requires-clause-ordered : goal.plan_pairs-requires-clause-ordered
plan_pairs-requires-clause-ordered g c =
    let p : PipelineData = c.args.planned.now in
    let (l, is) = laid_out_of p.netlist p (subst (λ (q : PipelineData). Shape q.netlist q) c.pipeline-pipeline.ensures c.facts.ensures) in
    let many : length p.netlist.nets ≡ length c.input_pairs.new.pairs = sym c.requires.marks.are.many ∙ c.requires.many ∙ sym c.input_pairs.auto.pairs in
    subst (λ cells. IsOrdered cells (length c.input_pairs.new.pairs)) (sym c.cells.ensures) (subst (IsOrdered (plan_of p)) many (plan-ordered is))

pub plan_pairs-requires-clause-pins : goal.plan_pairs-requires-clause-pins
plan_pairs-requires-clause-pins g c =
    let p : PipelineData = c.args.planned.now in
    let (l, is) = laid_out_of p.netlist p (subst (λ (q : PipelineData). Shape q.netlist q) c.pipeline-pipeline.ensures c.facts.ensures) in
    subst FitPins (sym c.cells.ensures) (plan-fits is)

pub returns-in_err-plan_pairs-clause-made : goal.returns-in_err-plan_pairs-clause-made
returns-in_err-plan_pairs-clause-made g c =
    let p : PipelineData = c.args.planned.now in
    let bits_are : c.inputs.result.now ≡ p.inputs = c.inputs.ensures.inputs ∙ ap (λ (q : PipelineData). q.inputs) c.pipeline-pipeline.ensures in
    let (l, is) = laid_out_of p.netlist p (subst (λ (q : PipelineData). Shape q.netlist q) c.pipeline-pipeline.ensures c.facts.ensures) in
    let old : SpaceData = g.P.Space.meaning c.args.space.now in
    let now : SpaceData = g.P.Space.meaning c.input_pairs.new.space in
    let marks : List Bool = c.args.marks.now in
    let pairs : List Pair = c.input_pairs.new.pairs in
    let bits : List Rails = c.inputs.result.now in
    let case = inputs-case is c.args.output marks c.requires.marks old now pairs (c.in_ok-input_pairs.ensures.kept.width ∙ c.requires.width) (with_inputs old now bits p.inputs marks pairs bits_are c.in_ok-input_pairs.ensures.have) in
    let full = c.in_err-plan_pairs.ensures.full (rail_nets p.inputs) (values p) (subst (λ cells. IsCase now cells marks pairs (rail_nets p.inputs) (values p)) (sym c.cells.ensures) case) in
    refused-rail old (g.P.Space.meaning c.plan_pairs.new.space) (circuit_of p) c.args.output c.from_residual-in_err-plan_pairs.result c.in_err-plan_pairs.field-0.0 c.from_residual-in_err-plan_pairs.ensures.1
    (λ models e. cells-over is c.args.output marks c.requires.marks models old bits c.requires.width bits_are now pairs c.in_ok-input_pairs.ensures.kept c.in_ok-input_pairs.ensures.have
    (subst (λ (cells : List DataCell). fits now (gathered (plan_tables now.width (values p) marks cells) (length cells)) ≡ false) c.cells.ensures (full (ap Err e))))

pub returns-clause-made : goal.returns-clause-made
returns-clause-made g c =
    let p : PipelineData = c.args.planned.now in
    let bits_are : c.inputs.result.now ≡ p.inputs = c.inputs.ensures.inputs ∙ ap (λ (q : PipelineData). q.inputs) c.pipeline-pipeline.ensures in
    let outputs_are : c.outputs.result.now ≡ p.outputs = c.outputs.ensures.outputs ∙ ap (λ (q : PipelineData). q.outputs) c.pipeline-pipeline.ensures in
    let (l, is) = laid_out_of p.netlist p (subst (λ (q : PipelineData). Shape q.netlist q) c.pipeline-pipeline.ensures c.facts.ensures) in
    let old : SpaceData = g.P.Space.meaning c.args.space.now in
    let now : SpaceData = g.P.Space.meaning c.input_pairs.new.space in
    let new : SpaceData = g.P.Space.meaning c.plan_pairs.new.space in
    let marks : List Bool = c.args.marks.now in
    let pairs : List Pair = c.input_pairs.new.pairs in
    let after : List Pair = c.plan_pairs.new.pairs in
    let case = inputs-case is c.args.output marks c.requires.marks old now pairs (c.in_ok-input_pairs.ensures.kept.width ∙ c.requires.width) (with_inputs old now c.inputs.result.now p.inputs marks pairs bits_are c.in_ok-input_pairs.ensures.have) in
    let over_plan = subst (λ (cells : List DataCell). IsCase now cells marks pairs (rail_nets p.inputs) (values p) → AreDone now new cells marks after (rail_nets p.inputs) (values p) (length cells)) c.cells.ensures (c.in_ok-plan_pairs.ensures.done (rail_nets p.inputs) (values p)) in
    let had = rail-had is c.args.output marks c.requires.marks now new after c.in_ok-plan_pairs.ensures.kept.space (over_plan case) in
    let own : c.requires.marks.rails ≡ get_or c.outputs.result.now c.args.output no_rails = sym (ap (λ xs. get_or xs c.args.output no_rails) outputs_are ∙ get_or_from_slice_get p.outputs c.args.output c.requires.marks.rails no_rails c.requires.marks.at) in
    record {
      rail = subst (λ (r : Rails). HasRail new (pair_at after r.one.0) (circuit_of p) c.args.output) own had;
      nets = nets-held is c.args.output marks c.requires.marks now new after c.in_ok-plan_pairs.ensures.kept.space (over_plan case);
      gathers = λ models. cells-gather is c.args.output marks c.requires.marks models old c.inputs.result.now c.requires.width bits_are now pairs c.in_ok-input_pairs.ensures.kept c.in_ok-input_pairs.ensures.have new after (over_plan case);
      full = search rules;
    }

pub slice_copy_out-result : goal.slice_copy_out-result
slice_copy_out-result g c =
    let p : PipelineData = c.args.planned.now in
    let outputs_are : c.outputs.result.now ≡ p.outputs = c.outputs.ensures.outputs ∙ ap (λ (q : PipelineData). q.outputs) c.pipeline-pipeline.ensures in
    let (l, is) = laid_out_of p.netlist p (subst (λ (q : PipelineData). Shape q.netlist q) c.pipeline-pipeline.ensures c.facts.ensures) in
    let many : length p.netlist.nets ≡ length c.plan_pairs.new.pairs = sym c.requires.marks.are.many ∙ c.requires.many ∙ sym c.input_pairs.auto.pairs ∙ sym c.plan_pairs.auto.pairs in
    let within = output-within is c.args.output (get_or p.outputs c.args.output no_rails) (slice_get-get_or p.outputs c.args.output no_rails c.requires.output) in
    subst (λ (xs : List Rails). (get_or xs c.args.output no_rails).one.0 < length c.plan_pairs.new.pairs) (sym outputs_are) (subst (λ n. (get_or p.outputs c.args.output no_rails).one.0 < n) many within)
