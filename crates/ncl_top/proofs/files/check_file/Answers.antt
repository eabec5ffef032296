use Rattle.ncl_top.proofs.Terms.{IsCheckReply, IsFileReply, Replies-long, refl, refused, subst}
use Rattle.ncl_check.specs.Text.{too_long}
use Rattle.ncl_top.proofs.files.check_file.Goals as goal

pub returns-in_err-bytes-clause-replies : goal.returns-in_err-bytes-clause-replies
returns-in_err-bytes-clause-replies g c =
    Replies-long _ _ _ (IsFileReply (g.S.Source.files c.args.source.now) c.args.file.now c.args.limit c.args.why)
    (λ bytes given many. record { bytes = bytes; given = given; outcome = _; ends = refl; reply = refused _ (too_long many) })
    _ c.in_err-bytes.ensures.refused c.from_residual.result c.from_residual.ensures.1

pub returns-clause-replies : goal.returns-clause-replies
returns-clause-replies g c =
    let reply = c.in_ok-reply.reply in
    record {
      bytes = c.in_ok-bytes.bytes.items;
      given = c.in_ok-bytes.ensures.bytes;
      outcome = reply.outcome;
      ends = c.status_of.ensures;
      reply = subst (λ bytes. IsCheckReply c.args.limit c.args.why bytes reply.outcome reply.text.items) c.deref.ensures.value c.in_ok-reply.ensures.reply;
    }
