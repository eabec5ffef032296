use Rattle.ncl_template.proofs.Terms.{AddsAmong, Fits, FitsJointly, IsForm, cost_of_inputs, length, node_function, subst, sym, waits_at, waits_once}
use Rattle.ncl_template.proofs.FormGates.{AddsAmong-form}
use Rattle.ncl_template.proofs.AmongLaws.{AddsAmong-all}
use Rattle.ncl_template.proofs.JointLaws.{AddsAmong-joint}
use Rattle.ncl_template.proofs.eager.add_waiting.Goals as goal

pub add_form-requires-clause-is : goal.add_form-requires-clause-is
add_form-requires-clause-is c = subst (λ n. IsForm n c.in-Some.form) (sym c.requires.as_many) c.in-Some.ensures.is

pub add_form-requires-in-Some-joint_form-clause-is : goal.add_form-requires-in-Some-joint_form-clause-is
add_form-requires-in-Some-joint_form-clause-is c = c.in-Some-joint_form.ensures.fits.is

pub returns-in-Some-clause-template : goal.returns-in-Some-clause-template
returns-in-Some-clause-template c =
    let node = c.args.node.now in
    let ins = c.args.ins.now in
    let new = c.add_form.new.gates.cells in
    subst (λ n. AddsAmong (node_function node) ins (waits_at c.args.waits) (cost_of_inputs n) c.args.gates.now.cells new c.in_ok-alone.alone) c.requires.as_many
    (AddsAmong-form (node_function node) ins (waits_at c.args.waits) c.in-Some.form (subst (λ n. Fits (node_function node) n (waits_at c.args.waits) c.in-Some.form) (sym c.requires.as_many) c.in-Some.ensures) c.args.gates.now.cells new c.in_ok-alone.alone c.in_ok-alone.ensures.form)

pub returns-in-Some-joint_form-clause-template : goal.returns-in-Some-joint_form-clause-template
returns-in-Some-joint_form-clause-template c =
    let node = c.args.node.now in
    let ins = c.args.ins.now in
    let form = c.in-Some-joint_form.form in
    let new = c.add_form-in-Some-joint_form.new.gates.cells in
    subst (λ n. AddsAmong (node_function node) ins (waits_at c.args.waits) (cost_of_inputs n) c.args.gates.now.cells new c.in_ok-beside.beside) c.requires.as_many
    (AddsAmong-joint (node_function node) ins c.args.waits form c.args.gates.now.cells new c.in_ok-beside.beside (subst (λ cells. FitsJointly cells (node_function node) ins (waits_once c.args.waits) form) c.cells.ensures.cells c.in-Some-joint_form.ensures) c.in_ok-beside.ensures.form)

pub returns-clause-template : goal.returns-clause-template
returns-clause-template c =
    let node = c.args.node.now in
    AddsAmong-all (node_function node) c.args.ins.now (waits_at c.args.waits) (cost_of_inputs (length node.ins)) c.args.gates.now.cells c.add_template.new.gates.cells c.in_ok-all.all c.in_ok-all.ensures.template
