use Rattle.ncl_complete.proofs.Terms.{Base, Bit, Incomplete, StageData, all_data_function, ap, incomplete-shown, least, least-shown, length, option_map, placed, sym, true, values-width, values_at, ◌∙◌}
use Rattle.ncl_complete.proofs.inputs.incomplete_word.Goals as goal

pub returns-clause-word : goal.returns-clause-word
returns-clause-word g c =
    let s : StageData = c.args.stage.now in
    let bit = c.args.bit in
    c.least_one.ensures
    ∙ (λ k. option_map (placed (c.order.ensures k)) (least true ((c.in_ok-all.ensures.kept.width ∙ values-width (g.P.Space.meaning c.args.space.now) s Base c.args.base.now c.facts-2.ensures c.facts.ensures c.requires.base) k) (c.in_ok-all.ensures.table k)))
    ∙ least-shown s c.args.base.now.wiring.order c.requires.base.wired.order (Incomplete bit) (all_data_function s (values_at s (Bit bit))) (incomplete-shown s bit c.requires.bit)

pub least_one-requires-clause-width : goal.least_one-requires-clause-width
least_one-requires-clause-width g c = c.in_ok-all.ensures.kept.width ∙ values-width (g.P.Space.meaning c.args.space.now) c.args.stage.now Base c.args.base.now c.facts-2.ensures c.facts.ensures c.requires.base ∙ sym (ap length c.order.ensures ∙ c.requires.base.wired.order.many)
