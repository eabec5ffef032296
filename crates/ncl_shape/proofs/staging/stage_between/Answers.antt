use Rattle.ncl_shape.proofs.Terms.{AllZip, AreGatesOf, AreInputsOf, AreRailsOf, IsStageOf, subst, sym}
use Rattle.ncl_shape.proofs.StageLaws.{between_is_stage, between_is_stage_of}
use Rattle.ncl_shape.proofs.staging.stage_between.Goals as goal
use Rattle.ncl_shape.proofs.staging.stage_between.Goals.{After-from_vec}

-- the rails, the nets and the gate cells that were found
rails : (c : After-from_vec) → AllZip (AreRailsOf c.args.netlist.now) c.args.bank.now.bits c.in_ok-inputs.inputs
rails c = subst (λ bits. AllZip (AreRailsOf c.args.netlist.now) bits c.in_ok-inputs.inputs) c.items.ensures c.in_ok-inputs.ensures

nets : (c : After-from_vec) → AllZip (AreInputsOf c.args.netlist.now) c.args.next.now.bits c.in_ok-outputs.outputs
nets c = subst (λ bits. AllZip (AreInputsOf c.args.netlist.now) bits c.in_ok-outputs.outputs) c.items-2.ensures c.in_ok-outputs.ensures

gates : (c : After-from_vec) → AreGatesOf c.args.netlist.now c.args.bank.now.request.0 c.from_vec.result
gates c = subst (AreGatesOf c.args.netlist.now c.args.bank.now.request.0) (sym c.from_vec.ensures) c.requires.cells

pub new-requires : goal.new-requires
new-requires c =
    let at = (goal.at.new-requires c).After-from_vec in
    between_is_stage c.args.netlist.now c.requires.netlist c.requires.free c.args.bank.now c.args.next.now c.requires.bank c.requires.next c.requires.follows c.from_vec.result (gates at) c.args.number c.in_ok-inputs.inputs c.in_ok-outputs.outputs (rails at) (nets at)

pub returns-clause-stage : goal.returns-clause-stage
returns-clause-stage c =
    let at = (goal.at.returns-clause-stage c).After-from_vec in
    subst (IsStageOf c.args.netlist.now c.args.bank.now c.args.next.now) (sym c.new.ensures)
    (between_is_stage_of c.args.netlist.now c.requires.netlist c.requires.free c.args.bank.now c.args.next.now c.requires.bank c.requires.next c.requires.follows c.from_vec.result (gates at) c.args.number c.in_ok-inputs.inputs c.in_ok-outputs.outputs (rails at) (nets at))
