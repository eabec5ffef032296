use Rattle.ncl_match.proofs.SignalLaws.{bit_function, both_tables, none-made}
use Rattle.ncl_match.proofs.signals.bit_pair.Goals as goal

pub returns-then-not-is_marked-clause-held : goal.returns-then-not-is_marked-clause-held
returns-then-not-is_marked-clause-held g c =
    let s = g.P.Space.meaning c.args.space.now in
    none-made s c.args.is_marked (both_tables s.width (bit_function c.args.bit)) c.if-not-is_marked.true
