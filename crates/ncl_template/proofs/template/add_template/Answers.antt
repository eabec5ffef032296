use Rattle.ncl_template.proofs.Terms.{AddsTemplate, ap, arith, cost_of_inputs, length, node_function, subst, sym, ◌∙◌, ◌≡◌}
use Rattle.ncl_template.proofs.Whole.{AddsTemplate-of_two, AddsTemplate-of_three, AddsTemplate-of_four}
use Rattle.ncl_template.proofs.template.add_template.Goals as goal

pub returns-then-ins-eq2-clause-template : goal.returns-then-ins-eq2-clause-template
returns-then-ins-eq2-clause-template c =
    let f = node_function c.args.node.now in
    let ins = c.args.ins.now in
    let two : length ins ≡ 2 = omega arith in
    subst (λ cost. AddsTemplate f ins ins cost c.args.gates.now.cells c.add_two.new.gates.cells c.in_ok-of_two.of_two) (ap cost_of_inputs (sym two ∙ c.requires.as_many))
    (AddsTemplate-of_two f ins c.args.gates.now.cells c.add_two.new.gates.cells c.in_ok-of_two.of_two c.row_behind-row.result c.pair-a.result c.pair-b.result two c.pair-a.ensures c.pair-b.ensures c.row_behind-row.ensures c.in_ok-of_two.ensures.template)

pub returns-then-ins-eq3-clause-template : goal.returns-then-ins-eq3-clause-template
returns-then-ins-eq3-clause-template c =
    let f = node_function c.args.node.now in
    let ins = c.args.ins.now in
    let three : length ins ≡ 3 = omega arith in
    subst (λ cost. AddsTemplate f ins ins cost c.args.gates.now.cells c.add_three.new.gates.cells c.in_ok-of_three.of_three) (ap cost_of_inputs (sym three ∙ c.requires.as_many))
    (AddsTemplate-of_three f ins c.args.gates.now.cells c.add_three.new.gates.cells c.in_ok-of_three.of_three c.table_of_three-table.result c.pair-a.result c.pair-b.result c.pair-c.result three c.pair-a.ensures c.pair-b.ensures c.pair-c.ensures c.table_of_three-table.ensures c.in_ok-of_three.ensures.template)

pub returns-clause-template : goal.returns-clause-template
returns-clause-template c =
    let f = node_function c.args.node.now in
    let ins = c.args.ins.now in
    let four : length ins ≡ 4 = omega arith in
    subst (λ cost. AddsTemplate f ins ins cost c.args.gates.now.cells c.add_four.new.gates.cells c.in_ok-of_four.of_four) (ap cost_of_inputs (sym four ∙ c.requires.as_many))
    (AddsTemplate-of_four f ins c.args.gates.now.cells c.add_four.new.gates.cells c.in_ok-of_four.of_four c.table_of_four-low.result c.table_of_four-high.result c.pair-a.result c.pair-b.result c.pair-c.result c.pair-d.result four c.pair-a.ensures c.pair-b.ensures c.pair-c.ensures c.pair-d.ensures c.table_of_four-low.ensures c.table_of_four-high.ensures c.in_ok-of_four.ensures.template)
