use Rattle.ncl_template.proofs.Terms.{[], table_value, ◌∷◌}
use Rattle.ncl_template.proofs.Whole.{AddsTemplate-tables_differ}
use Rattle.ncl_template.proofs.template.add_four.Goals as goal

pub returns-clause-template : goal.returns-clause-template
returns-clause-template c =
    let low = c.args.low in
    let high = c.args.high in
    let others = c.args.others.0 ∷ c.args.others.1 ∷ c.args.others.2 ∷ [] in
    c.in_ok-out.ensures.template others (table_value low) (table_value high) 8 c.args.gates.now.cells c.add_three.new.gates.cells c.in_ok-same.ensures.template
    (AddsTemplate-tables_differ low high c.difference.result others c.add_three.new.gates.cells c.add_three-2.new.gates.cells c.in_ok-change.change c.difference.ensures c.in_ok-change.ensures.template)
