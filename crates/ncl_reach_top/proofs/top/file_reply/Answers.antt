use Rattle.ncl_reach_top.proofs.Terms.{IsReachedFile, Replies-long, refl, refused, too_long}
use Rattle.ncl_reach_top.proofs.top.file_reply.Goals as goal

pub returns-in_err-bytes-clause-replies : goal.returns-in_err-bytes-clause-replies
returns-in_err-bytes-clause-replies g c =
    Replies-long _ _ _ (IsReachedFile (g.S.Source.files c.args.source.now) c.args.file.now c.args.limit)
    (λ bytes given many. record { bytes = bytes; given = given; outcome = _; ends = refl; reply = refused _ (too_long many) })
    _ c.in_err-bytes.ensures.refused c.from_residual.result c.from_residual.ensures.1
