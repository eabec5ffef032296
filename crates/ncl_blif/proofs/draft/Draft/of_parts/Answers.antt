use Rattle.ncl_blif.proofs.Terms.{MOST_BYTES, ap, arith, drivers_of, err_from_is_err_and, inl, inr, length, said_by, subst, sym, take, ⊎_elim, ◌≤◌}
use Rattle.ncl_blif.proofs.PartSteps.{taken-more, taken-broken, taken-all, drivers-room}
use Rattle.ncl_blif.proofs.draft.Draft.of_parts.Goals as goal

pub add_part-requires-clause-room : goal.add_part-requires-clause-room
add_part-requires-clause-room c =
    omega (arith, drivers-room c.args.parts.now c.loop-part.part-index (said_by c.loop-part.body) c.part-item.result c.loop-part.invariant.taken.said c.loop-part-test.true c.part-item.is)

pub returns-in_err-has_ended : goal.returns-in_err-has_ended
returns-in_err-has_ended c =
    let taken = c.loop-part.invariant.taken in
    let p = err_from_is_err_and c.from_residual.result c.from_residual.ensures.1 in
    rw (p.1, p.2) (⊎_elim (λ memory. inl memory)
    (λ broken. inr (taken-broken _ _ _ _ c.part-item.result _ taken c.loop-part-test.true c.part-item.is broken))
    (c.in_err-has_ended.ensures (take c.loop-part.part-index c.args.parts.now) taken.said taken.ends))

pub loop-part-preserved : goal.loop-part-preserved
loop-part-preserved c =
    let taken = c.loop-part.invariant.taken in
    let added = c.in_ok-has_ended.ensures (take c.loop-part.part-index c.args.parts.now) taken.said taken.ends in
    record {
      kept = added.0;
      taken = taken-more _ _ _ _ _ _ c.part-item.result taken c.loop-part-test.true c.part-item.is added.1 added.2 added.3;
    }

pub returns : goal.returns
returns c =
    let all = taken-all c.args.parts.now _ _ _ c.loop-part.invariant.taken c.loop-part-test.false in
    (all.0, λ i. record (all.1 i) { name = c.name_of.ensures i })

pub invariant_of-result : goal.invariant_of-result
invariant_of-result c =
    let all = taken-all c.args.parts.now _ _ _ c.loop-part.invariant.taken c.loop-part-test.false in
    (c.loop-part.invariant.kept, subst (λ n. n ≤ MOST_BYTES) (sym (ap (λ model. length (drivers_of model)) all.1)) c.requires)
