use Rattle.ncl_rails.proofs.Terms.{IfSome, IsSameAs, IsSplit, arith, subst}
use Rattle.std.proofs.lemmas.Result.{IfOk-weaker}
use Rattle.ncl_rails.proofs.GatesLaws.{IsSameAs-then}
use Rattle.ncl_rails.proofs.stage_gates.other_gates.Goals as goal

pub joined_gates-requires-in-Some-clause-same : goal.joined_gates-requires-in-Some-clause-same
joined_gates-requires-in-Some-clause-same c =
    let turned = c.in-Some.turned in
    IsSameAs-then c.args.network.now c.args.other.now turned c.requires.same (subst (λ found. IfSome found (IsSameAs c.args.other.now)) c.in-Some.is c.in_ok-turned.ensures.same)

pub joined_gates-requires-in-Some-clause-other : goal.joined_gates-requires-in-Some-clause-other
joined_gates-requires-in-Some-clause-other c = subst (λ found. IfSome found IsSplit) c.in-Some.is c.in_ok-turned.ensures.network

pub returns-in-Some-clause-fewer : goal.returns-in-Some-clause-fewer
returns-in-Some-clause-fewer c =
    IfOk-weaker c.joined_gates-in-Some.result _ _
    (λ found fewer. omega (arith, fewer, c.in_ok-found-2.ensures.fewer, c.in_ok-found.ensures.fewer)) c.joined_gates-in-Some.ensures.fewer

pub returns-in-None-clause-fewer : goal.returns-in-None-clause-fewer
returns-in-None-clause-fewer c = omega (arith, c.in_ok-found-2.ensures.fewer, c.in_ok-found.ensures.fewer)
