use Rattle.ncl_template.proofs.Terms.{[], row_value, ◌∷◌}
use Rattle.ncl_template.proofs.Whole.{AddsTemplate-rows_differ}
use Rattle.ncl_template.proofs.template.add_three.Goals as goal

pub returns-clause-template : goal.returns-clause-template
returns-clause-template c =
    let table = c.args.table in
    let others = c.args.b ∷ c.args.c ∷ [] in
    c.in_ok-out.ensures.template others (row_value table.low) (row_value table.high) 2 c.args.gates.now.cells c.add_two.new.gates.cells c.in_ok-same.ensures.template
    (AddsTemplate-rows_differ table.low table.high c.difference.result others c.add_two.new.gates.cells c.add_two-2.new.gates.cells c.in_ok-change.change c.difference.ensures c.in_ok-change.ensures.template)
