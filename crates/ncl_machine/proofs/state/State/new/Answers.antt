use Rattle.ncl_machine.proofs.Terms.{All, AllPairs, Held, IsCounted, List, MOST_BITS, Rails, ap, arith, data_banks, data_banks-le, length, rail_nets, subst, sym, vec_capacity, ◌+◌, ◌<◌, ◌∙◌, ◌≡◌, ◌≢◌, ◌≤◌}
use Rattle.ncl_machine.proofs.ProgramEnds.{program_ends}
use Rattle.ncl_machine.proofs.SourceStart.{start_same, start_counted}
use Rattle.ncl_machine.proofs.state.State.new.Goals as goal

pub new-requires-clause-apart : goal.new-requires-clause-apart
new-requires-clause-apart c =
    subst (λ (bits : List Rails). AllPairs (λ x y. x ≢ y) (rail_nets bits)) (sym c.outputs.ensures.outputs) (program_ends c.args.pipeline.now c.outputs.ensures.shape).outputs_apart

pub new-requires-clause-within : goal.new-requires-clause-within
new-requires-clause-within c =
    subst (λ (bits : List Rails). All (λ net. net < length c.in_ok-values.values.items) (rail_nets bits)) (sym c.outputs.ensures.outputs)
    (subst (λ n. All (λ net. net < n) (rail_nets c.args.pipeline.now.outputs)) (sym c.in_ok-values.ensures.nets) (program_ends c.args.pipeline.now c.outputs.ensures.shape).outputs_within)

pub new-requires-clause-few : goal.new-requires-clause-few
new-requires-clause-few c =
    subst (λ (bits : List Rails). length bits ≤ MOST_BITS) (sym c.outputs.ensures.outputs) (program_ends c.args.pipeline.now c.outputs.ensures.shape).few_outputs

pub overflow_add-due : goal.overflow_add-due
overflow_add-due c =
    let p = c.args.pipeline.now in
    let few = c.outputs.ensures.shape.few_banks in
    let most = data_banks-le p.banks in
    let as_long = ap length c.in_ok-offered.ensures in
    omega (arith, c.data_banks.ensures, most, few, as_long, c.in_ok-offered.offered.ok.0, c.in_ok-offered.offered.ok.1, c.in_ok-offered.offered.small)

pub invariant_of-result : goal.invariant_of-result
invariant_of-result c =
    let p = c.args.pipeline.now in
    let inputs : c.in_ok-inputs.inputs.items ≡ p.inputs = c.in_ok-inputs.ensures.items ∙ c.inputs.ensures.inputs in
    let room : c.data_banks.result + length c.args.words.now ≤ vec_capacity c.in_ok-delivered.delivered = omega (arith, c.in_ok-delivered.ensures.exact) in
    let due : c.data_banks.result + length c.args.words.now ≡ data_banks p.banks + length c.args.words.now = ap (λ d. d + length c.args.words.now) c.data_banks.ensures in
    let same = start_same p c.args.words.now c.in_ok-values.values.items c.in_ok-inputs.inputs.items c.outputs.result.now c.in_ok-levels.levels c.ki.result.0 c.ko.result.0
    c.in_ok-offered.offered.items (c.data_banks.result + length c.args.words.now) c.in_ok-delivered.delivered.items inputs c.in_ok-levels.ensures c.outputs.ensures.outputs c.ki.ensures.ki c.ko.ensures.ko c.in_ok-offered.ensures due c.in_ok-delivered.ensures.items in
    (subst (λ (h : Held). IsCounted h 0) same (start_counted p (program_ends p c.ki.ensures.shape) c.args.words.now c.requires c.in_ok-values.values.items c.in_ok-values.ensures.nets c.in_ok-values.ensures.values), room)
