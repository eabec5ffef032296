use Rattle.ncl_stage.proofs.Terms.{AreValues, StageData, ValuesData, ap, have-length, length, length-map, net_table_by, net_tables_by, nets_of, subst, sym, ◌∙◌}
use Rattle.ncl_stage.proofs.evaluation.make_values_from.Goals as goal

pub with_refs-requires : goal.with_refs-requires
with_refs-requires g c =
    let s : StageData = c.args.stage.now in
    let order = c.args.base.now.wiring.order in
    have-length (g.P.Space.meaning c.net_refs_from.new.space) c.in_ok-refs.refs.items (net_tables_by order s c.args.variant) c.in_ok-refs.ensures.made.refs_of
    ∙ length-map (nets_of s.inputs s.cells) (net_table_by order s c.args.variant) ∙ sym (ap length c.requires.wired.nets)

pub returns-clause-values : goal.returns-clause-values
returns-clause-values g c =
    subst (AreValues (g.P.Space.meaning c.net_refs_from.new.space) c.args.stage.now c.args.variant) (sym c.in_ok-values.ensures)
    (record { wired = c.requires.wired; shown = c.in_ok-refs.ensures.made.refs_of })

pub returns-clause-order : goal.returns-clause-order
returns-clause-order g c = ap (λ (v : ValuesData). v.wiring.order) c.in_ok-values.ensures
