use Rattle.ncl_stage.proofs.Terms.{AreValues, Err, List, SpaceData, StageData, ValuesData, ap, false, fits, handed_on, have-length, keeps_all, length, length-map, net_table_by, net_tables_by, nets_of, subst, sym, with_tables, ℕ, ◌∙◌, ◌≡◌}
use Rattle.ncl_stage.proofs.evaluation.make_values.Goals as goal

pub returns-in_err-refs-clause-full : goal.returns-in_err-refs-clause-full
returns-in_err-refs-clause-full g c = λ e.
    let old : SpaceData = g.P.Space.meaning c.args.space.now in
    subst (λ (order : List ℕ). fits old (net_tables_by order c.args.stage.now c.args.variant) ≡ false) c.in_ok-wiring.ensures.order
    (c.in_err-refs.ensures.full (ap Err (handed_on c.from_residual-in_err-refs.result c.in_err-refs.field-0.0 c.from_residual-in_err-refs.ensures.1 e)))

pub returns-clause-values : goal.returns-clause-values
returns-clause-values g c =
    subst (AreValues (g.P.Space.meaning c.net_refs.new.space) c.args.stage.now c.args.variant) (sym c.in_ok-values.ensures)
    (record { wired = c.in_ok-wiring.ensures.wiring; shown = c.in_ok-refs.ensures.made.refs_of })

pub returns-clause-held : goal.returns-clause-held
returns-clause-held g c =
    c.in_ok-refs.ensures.made.held
    ∙ ap (λ (order : List ℕ). with_tables (g.P.Space.meaning c.args.space.now) (net_tables_by order c.args.stage.now c.args.variant)) c.in_ok-wiring.ensures.order

pub returns-in_err-wiring-clause-kept : goal.returns-in_err-wiring-clause-kept
returns-in_err-wiring-clause-kept g c = keeps_all (g.P.Space.meaning c.args.space.now) c.facts.ensures

pub new-requires : goal.new-requires
new-requires g c =
    let s : StageData = c.args.stage.now in
    let order : List ℕ = c.in_ok-wiring.wiring.order in
    have-length (g.P.Space.meaning c.net_refs.new.space) c.in_ok-refs.refs.items (net_tables_by order s c.args.variant) c.in_ok-refs.ensures.made.refs_of
    ∙ length-map (nets_of s.inputs s.cells) (net_table_by order s c.args.variant) ∙ sym (ap length c.in_ok-wiring.ensures.wiring.nets)

pub returns-clause-order : goal.returns-clause-order
returns-clause-order g c = ap (λ (v : ValuesData). v.wiring.order) c.in_ok-values.ensures ∙ c.in_ok-wiring.ensures.order
