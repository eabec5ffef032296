use Rattle.ncl_delay.proofs.Terms.{ap, fields_of, map, stating, sym, ◌∙◌}
use Rattle.ncl_delay.proofs.Saying.{said-three, said-four}
use Rattle.ncl_delay.proofs.statement.said.Goals as goal

pub returns-in-len3-clause-value : goal.returns-in-len3-clause-value
returns-in-len3-clause-value c =
    let first = ap (map (λ field. field.now)) c.as_slice.ensures.value ∙ c.first_fields.ensures in
    c.stating.ensures.value ∙ (λ i. stating (c.read_subject.ensures i) (c.read_edges.ensures.value i))
    ∙ sym (said-three (fields_of c.args.line.now) c.as_slice.result.now _ first c.in-len3.len_at_least c.in-len3.len_below)

pub returns-in-len4-clause-value : goal.returns-in-len4-clause-value
returns-in-len4-clause-value c =
    let first = ap (map (λ field. field.now)) c.as_slice.ensures.value ∙ c.first_fields.ensures in
    c.stating-in-len4.ensures.value ∙ (λ i. stating (c.read_cell.ensures i) (c.read_edges-in-len4.ensures.value i))
    ∙ sym (said-four (fields_of c.args.line.now) c.as_slice.result.now _ first c.in-len4.len_at_least c.in-len4.len_below)
