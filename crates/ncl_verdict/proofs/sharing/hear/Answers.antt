use Rattle.ncl_verdict.proofs.Terms.{IsHeard, ReadyData, ap, length, shared_of, subst, sym, ◌∙◌, ◌≡◌}
use Rattle.ncl_verdict.proofs.sharing.hear.Goals as goal

pub returns-then-parts-lt2 : goal.returns-then-parts-lt2
returns-then-parts-lt2 g c = tt

pub returns-then-saturating_mul-lt-WORTH_SHARING : goal.returns-then-saturating_mul-lt-WORTH_SHARING
returns-then-saturating_mul-lt-WORTH_SHARING g c = tt

pub returns : goal.returns
returns g c =
    let same : c.in_ok-shared.shared ≡ shared_of c.args.ready.now.limit c.args.ready.now.stage = c.in_ok-shared.ensures ∙ ap (λ (r : ReadyData). shared_of r.limit r.stage) c.ready.view_is in
    subst (λ shared. IsHeard shared c.settled.result) same (c.settled.ensures c.in_ok-shared.shared (sym (ap length c.variants-count.ensures.variants)) c.in_ok-part.ensures)
