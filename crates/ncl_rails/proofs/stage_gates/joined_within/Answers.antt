use Rattle.ncl_rails.proofs.Terms.{IfSome, IsSameAs, subst}
use Rattle.ncl_rails.proofs.GatesLaws.{IsSameAs-then}
use Rattle.ncl_rails.proofs.stage_gates.joined_within.Goals as goal

pub better_gates-requires-clause-same : goal.better_gates-requires-clause-same
better_gates-requires-clause-same c =
    let joined = c.in-Some-2.joined in
    IsSameAs-then c.args.network.now c.args.other.now joined c.requires.same (subst (λ found. IfSome found (IsSameAs c.args.other.now)) c.in-Some-2.is c.in_ok-joined.ensures.same)
