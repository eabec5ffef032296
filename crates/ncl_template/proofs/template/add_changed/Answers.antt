use Rattle.ncl_template.proofs.Changed.{AddsTemplate-changed}
use Rattle.ncl_template.proofs.template.add_changed.Goals as goal

pub returns-clause-template : goal.returns-clause-template
returns-clause-template c rest low high most before now same change =
    AddsTemplate-changed c.args.x rest low high most before now c.args.gates.now.cells c.add_two.new.gates.cells c.add_two-2.new.gates.cells c.args.same c.args.change c.in_ok-changed.changed c.in_ok-out.out same change c.in_ok-changed.ensures.template c.in_ok-out.ensures.template
