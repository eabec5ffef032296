use Rattle.ncl_netlist.proofs.Terms.{[], ap, append-nil, arith, cell_of, flat_map, insert_all, length_push, map, rules, same_name, ◌∙◌, ◌≡◌}
use Rattle.ncl_netlist.proofs.Steps.{all_gone, Numbered-more}
use Rattle.ncl_netlist.proofs.numbering.number_cells.Goals as goal

pub loop-cell-preserved : goal.loop-cell-preserved
loop-cell-preserved c =
    let keys = c.loop-cell.names.keys in
    let longer = length_push c.loop-cell.yielded c.in-Some.cell in (
      rw c.in_ok-push.ensures.items (Numbered-more cell_of (λ cell. cell.pins) _ c.loop-cell.yielded keys c.loop-cell.numbered.items c.in-Some.cell c.in_ok-number_cell.field-0 _ c.loop-cell.invariant.0 c.in_ok-number_cell.ensures.names c.in_ok-number_cell.ensures.cell),
      omega (arith, c.loop-cell.invariant.1, c.in_ok-number_cell.ensures.few),
    )

-- all cells were gone through
all_done : (c : goal.After-drop-cell-iterator-2) → c.loop-cell.yielded ≡ c.args.cells.items
all_done c = all_gone _ _ c.args.cells.items c.loop-cell.yielded (search rules) (search rules) c.loop-cell.yielded_by c.next.result c.next.new.self c.in-None.is c.next.ensures.steps

pub returns-clause-names : goal.returns-clause-names
returns-clause-names c =
    c.loop-cell.invariant.0.inserted ∙ ap (λ l. insert_all same_name c.args.names.now.keys (flat_map (λ cell. cell.pins) l)) (all_done c)

pub returns-clause-cells : goal.returns-clause-cells
returns-clause-cells c =
    c.loop-cell.invariant.0.numbers []
    ∙ ap (λ l. map (cell_of l) c.loop-cell.yielded) (append-nil c.loop-cell.names.keys)
    ∙ ap (map (cell_of c.loop-cell.names.keys)) (all_done c)
