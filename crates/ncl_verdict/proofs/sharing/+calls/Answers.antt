use Rattle.std.proofs.lemmas.Result.{IfOk-at_ok}
use Rattle.ncl_verdict.specs.Sharing.{IsPart}
use Rattle.ncl_verdict.proofs.sharing.+calls.Goals as goal

pub returns : goal.returns
returns g t c =
    let shared = g.H.Hear.shared c.args.shared.now in
    c.together.ensures shared
    (IfOk-at_ok (IsPart shared) c.in_ok-first.was c.join-first.ensures.first)
    (IfOk-at_ok (IsPart shared) c.in_ok-second.was c.join-first.ensures.second)
