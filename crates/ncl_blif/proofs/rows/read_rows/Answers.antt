use Rattle.ncl_blif.proofs.Terms.{Some, ap, arith, err_from_is_err_and, inl, inr, sym, ⊎_elim, ◌∙◌}
use Rattle.ncl_blif.proofs.RowSteps.{read-all, read-more, read-bad, read-mixed, rows_fault-is, bits-same, bits-differ}
use Rattle.ncl_blif.proofs.rows.read_rows.Goals as goal

pub returns-in_err-row : goal.returns-in_err-row
returns-in_err-row c = λ head names count.
    let p = err_from_is_err_and c.from_residual-in_err-row.result c.from_residual-in_err-row.ensures.1 in
    rw (p.1, p.2) (⊎_elim (λ memory. inl memory)
    (λ bad. inr (rows_fault-is head _ _ names count ∙ read-bad _ _ _ _ _ c.line-item.result c.loop-line.invariant (omega arith) c.line-item.is bad.0 ∙ ap Some (sym bad.1)))
    c.in_err-row.ensures)

pub returns-then-is_on-on : goal.returns-then-is_on-on
returns-then-is_on-on c = λ head names count.
    inr (rw c.number.ensures (rows_fault-is head _ _ names count
    ∙ read-mixed _ _ _ _ _ c.line-item.result c.loop-line.invariant (omega arith) c.line-item.is c.in_ok-row.ensures.0 (λ same. bits-differ _ _ c.if-is_on-on.true (c.in_ok-row.ensures.2 ∙ same))))

pub loop-line-preserved : goal.loop-line-preserved
loop-line-preserved c =
    rw c.in_ok-push.ensures.items
    (read-more _ _ _ _ _ c.line-item.result _ c.loop-line.invariant (omega arith) c.line-item.is c.in_ok-row.ensures.0 c.in_ok-row.ensures.1 (sym c.in_ok-row.ensures.2 ∙ bits-same _ _ c.if-is_on-on.false))

pub returns : goal.returns
returns c = λ head names count. rw c.from_vec-2.ensures (read-all head _ _ _ _ _ names count c.loop-line.invariant (omega (arith, c.loop-line-test.false)))
