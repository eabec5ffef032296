use Rattle.ncl_cells.proofs.Terms.{All, All-push, List, Lit, ap, arith, get_or, length, subst, sym, take, take_all, take_more, ◌∙◌, ◌≡◌}
use Rattle.ncl_cells.proofs.offer.have_width.Goals as goal

pub loop-row-preserved : goal.loop-row-preserved
loop-row-preserved c =
    let P = λ (row : List Lit). length row ≡ c.args.width in
    let rows = c.args.rows.now in
    let i = c.loop-row.row-index in
    let row : List Lit = c.row-item.result in
    subst (All P) (sym (take_more rows i row c.loop-row-test.true)) (All-push P (take i rows) (get_or rows i row) c.loop-row.invariant (omega (arith, c.if-items-width.false, ap length (c.items.ensures ∙ c.row-item.is))))

pub returns : goal.returns
returns c = λ yes. subst (All (λ (row : List Lit). length row ≡ c.args.width)) (take_all c.loop-row.row-index c.args.rows.now c.loop-row-test.false) c.loop-row.invariant
