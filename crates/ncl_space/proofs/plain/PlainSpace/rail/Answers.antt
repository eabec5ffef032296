use Rattle.ncl_space.proofs.Terms.{IsRow, List, ap, false, is_value, rail_table, row_table, slice_index_or, subst, sym, ℕ, ◌∙◌}
use Rattle.ncl_space.proofs.TableLaws.{length-table_of}
use Rattle.ncl_space.proofs.RowLaws.{IsRow-holds, row_table-holds}
use Rattle.ncl_space.proofs.PlainLaws.{adds_by_push, made_by_push}
use Rattle.ncl_space.proofs.plain.PlainSpace.rail.Goals as goal

pub push_row-requires : goal.push_row-requires
push_row-requires c =
    subst (λ (row : List ℕ). IsRow c.args.self.now.width row) (sym c.as_slice.ensures.value)
    (IsRow-holds c.args.self.now.width c.rail_row-row.result.items (rail_table c.args.self.now.width c.args.bit c.args.value) (length-table_of c.args.self.now.width (λ word. is_value c.args.value (slice_index_or word c.args.bit false))) c.rail_row-row.ensures)

pub returns-clause-made : goal.returns-clause-made
returns-clause-made c =
    made_by_push c.args.self.now c.push_row.new.self c.as_slice.result.now (rail_table c.args.self.now.width c.args.bit c.args.value) c.push_row.result
    (ap (λ (row : List ℕ). row_table c.args.self.now.width row 0) c.as_slice.ensures.value ∙ row_table-holds c.args.self.now.width c.rail_row-row.result.items (rail_table c.args.self.now.width c.args.bit c.args.value) (length-table_of c.args.self.now.width (λ word. is_value c.args.value (slice_index_or word c.args.bit false))) c.rail_row-row.ensures)
    c.push_row.ensures.place c.push_row.ensures.pushed

pub returns-clause-adds : goal.returns-clause-adds
returns-clause-adds c =
    adds_by_push c.args.self.now c.push_row.new.self c.as_slice.result.now (rail_table c.args.self.now.width c.args.bit c.args.value) c.push_row.result
    (ap (λ (row : List ℕ). row_table c.args.self.now.width row 0) c.as_slice.ensures.value ∙ row_table-holds c.args.self.now.width c.rail_row-row.result.items (rail_table c.args.self.now.width c.args.bit c.args.value) (length-table_of c.args.self.now.width (λ word. is_value c.args.value (slice_index_or word c.args.bit false))) c.rail_row-row.ensures)
    c.push_row.ensures.pushed c.push_row.ensures.unchanged
