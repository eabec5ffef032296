use Rattle.ncl_complete.proofs.Terms.{Base, HaveTables, List, SpaceData, StageData, data_functions, function_tables_by, illegal_functions, subst, sym, values-width, values_at, ℕ, ◌∙◌}
use Rattle.ncl_complete.proofs.rails.valid_rails.Goals as goal

pub first_fault-requires-clause-some : goal.first_fault-requires-clause-some
first_fault-requires-clause-some g c =
    let s : StageData = c.args.stage.now in
    let new : SpaceData = g.P.Space.meaning c.output_refs.new.space in
    subst (λ (order : List ℕ). HaveTables new c.in-Ok.refs.some.items (function_tables_by order (data_functions s (values_at s Base)))) (sym c.order.ensures) c.in-Ok.ensures.some

pub first_fault-requires-clause-both : goal.first_fault-requires-clause-both
first_fault-requires-clause-both g c =
    let s : StageData = c.args.stage.now in
    let new : SpaceData = g.P.Space.meaning c.output_refs.new.space in
    subst (λ (order : List ℕ). HaveTables new c.in-Ok.refs.both.items (function_tables_by order (illegal_functions s (values_at s Base)))) (sym c.order.ensures) c.in-Ok.ensures.both

pub first_fault-requires-clause-width : goal.first_fault-requires-clause-width
first_fault-requires-clause-width g c = c.in-Ok.ensures.kept.width ∙ values-width (g.P.Space.meaning c.args.space.now) c.args.stage.now Base c.args.base.now c.mark-start.ensures.space c.facts.ensures c.requires
