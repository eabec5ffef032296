use Rattle.ncl_template.proofs.Whole.{AddsTemplate-two}
use Rattle.ncl_template.proofs.template.add_two.Goals as goal

pub returns-clause-template : goal.returns-clause-template
returns-clause-template c =
    AddsTemplate-two c.args.row c.args.a c.args.b c.inverse.result c.args.gates.now.cells c.add_two_gate.new.gates.cells c.add_two_gate-2.new.gates.cells c.in_ok-zero.zero c.in_ok-one.one c.inverse.ensures c.in_ok-zero.ensures.gate c.in_ok-one.ensures.gate
