use Rattle.std.proofs.Common.{◌≡◌, Err, ap}
use Rattle.ncl_base.specs.declared.source.TheConstants.{MOST_BYTES}
use Rattle.ncl_reply.specs.Given.{IsTooLong}
use Rattle.ncl_reply.proofs.Held.{given_more}
use Rattle.ncl_reply.proofs.Refusals.{Refuses-weaker}
use Rattle.ncl_reply.proofs.loading.load_file.Goals as goal

pub returns-in-Err-TooLong-clause-refused : goal.returns-in-Err-TooLong-clause-refused
returns-in-Err-TooLong-clause-refused g c =
    let (bytes, more, given) = given_more MOST_BYTES _ c.args.file.now (c.in-Err-TooLong.ensures.long (ap Err c.in-Err-TooLong.field-0-is)) in
    let long : IsTooLong (g.S.Source.files c.args.source.now) c.args.file.now = record { bytes = bytes; given = given; many = more } in
    Refuses-weaker (λ line. line ≡ c.args.long.now) (λ line. (line ≡ c.args.long.now) × IsTooLong (g.S.Source.files c.args.source.now) c.args.file.now)
    (λ line is. (is, long)) c.too_long.result c.too_long.ensures.told
