use Rattle.ncl_check.proofs.Terms.{Err, IfOk-weaker, IsOrphanText, IsWhyText, NamesCellOf, Verdict, ap, data_banks, explained, judged-orphan, names_cell_of, names_items, past_limit, subst, sym, ◌-◌, ◌∙◌}
use Rattle.std.specs.Prelude.{IfOk}
use Rattle.ncl_check.proofs.explaining.why_text.Goals as goal

pub explain-requires-clause-stage : goal.explain-requires-clause-stage
explain-requires-clause-stage c = (judged-orphan c.args.pipeline.now c.facts.ensures c.args.limit c.in-Orphan.stage c.in-Orphan.cell c.in-Orphan.word (sym c.requires.verdict ∙ c.in-Orphan.is)).0

pub explain-requires-clause-orphan : goal.explain-requires-clause-orphan
explain-requires-clause-orphan c = (judged-orphan c.args.pipeline.now c.facts.ensures c.args.limit c.in-Orphan.stage c.in-Orphan.cell c.in-Orphan.word (sym c.requires.verdict ∙ c.in-Orphan.is)).1

pub explained_text-requires-clause-cell : goal.explained_text-requires-clause-cell
explained_text-requires-clause-cell c =
    let p = c.args.pipeline.now in
    subst (NamesCellOf p.netlist) (sym c.requires.verdict ∙ c.in-Orphan.is) (names_cell_of p.netlist p c.args.limit c.facts.ensures)

pub explained_text-requires-clause-items : goal.explained_text-requires-clause-items
explained_text-requires-clause-items c = names_items c.args.pipeline.now (c.in-Orphan.stage - 1) c.in-Orphan.cell c.args.limit c.in-Ok.told c.in-Ok.ensures.explained

pub returns-then-data_banks-ne0 : goal.returns-then-data_banks-ne0
returns-then-data_banks-ne0 c =
    let p = c.args.pipeline.now in
    subst (λ (v : Verdict). IfOk c.untold_text.result (λ text. IsWhyText c.args.limit p v text.items)) (sym c.in-Orphan.is)
    (IfOk-weaker c.untold_text.result _ (λ text. IsOrphanText c.args.limit p (c.in-Orphan.stage - 1) c.in-Orphan.cell text.items)
    (λ text said. subst (IsOrphanText c.args.limit p (c.in-Orphan.stage - 1) c.in-Orphan.cell) (sym said) (data_banks (λ none. c.if-data_banks-ne0.true (c.data_banks.ensures ∙ none))))
    c.untold_text.ensures)

pub returns-in-Ok : goal.returns-in-Ok
returns-in-Ok c =
    let p = c.args.pipeline.now in
    subst (λ (v : Verdict). IfOk c.explained_text.result (λ text. IsWhyText c.args.limit p v text.items)) (sym c.in-Orphan.is)
    (IfOk-weaker c.explained_text.result _ (λ text. IsOrphanText c.args.limit p (c.in-Orphan.stage - 1) c.in-Orphan.cell text.items)
    (λ text said. subst (IsOrphanText c.args.limit p (c.in-Orphan.stage - 1) c.in-Orphan.cell) (sym said) (explained (sym c.data_banks.ensures ∙ c.if-data_banks-ne0.false) c.in-Ok.told c.in-Ok.ensures.explained))
    c.explained_text.ensures)

pub returns-in-Err-Full : goal.returns-in-Err-Full
returns-in-Err-Full c =
    let p = c.args.pipeline.now in
    subst (λ (v : Verdict). IfOk c.past_limit_text.result (λ text. IsWhyText c.args.limit p v text.items)) (sym c.in-Orphan.is)
    (IfOk-weaker c.past_limit_text.result _ (λ text. IsOrphanText c.args.limit p (c.in-Orphan.stage - 1) c.in-Orphan.cell text.items)
    (λ text said. subst (IsOrphanText c.args.limit p (c.in-Orphan.stage - 1) c.in-Orphan.cell) (sym said) (past_limit (sym c.data_banks.ensures ∙ c.if-data_banks-ne0.false) (c.in-Err-Full.ensures.full (ap Err c.in-Err-Full.field-0-is))))
    c.past_limit_text.ensures)
