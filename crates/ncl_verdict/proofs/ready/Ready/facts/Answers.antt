use Rattle.ncl_verdict.proofs.Terms.{Base, None, ReadyData, at_variant, stopped_at, subst, ◌≡◌}
use Rattle.ncl_verdict.proofs.ready.Ready.facts.Goals as goal

pub returns : goal.returns
returns c = subst (λ (r : ReadyData). at_variant (stopped_at r.limit) r.stage Base ≡ None) c.self.view_is c.self.invariant.nothing
