use Rattle.ncl_sim_match.proofs.Terms.{AreDelaysText, AreRefusedDelays, IsDelaysReply, IsWordsReply, Replies-long, Replies-told, long_delays, no_reading, reading, subst}
use Rattle.ncl_sim_match.proofs.SimReplies.{Replies-weaker}
use Rattle.ncl_sim_match.proofs.files.delays_reply.Goals as goal

pub returns-in_err-bytes-clause-replies : goal.returns-in_err-bytes-clause-replies
returns-in_err-bytes-clause-replies g c =
    Replies-long _ _ _ (IsDelaysReply (g.S.Source.files c.args.source.now) c.args.pipeline.now c.args.run.now.delays.now c.args.run.now.words.now c.args.run.now.vcd)
    (λ bytes given many. no_reading _ (record { bytes = bytes; given = given; is = long_delays many })) _ c.in_err-bytes.ensures.refused c.from_residual.result c.from_residual.ensures.1

pub returns-in_err-delays-clause-replies : goal.returns-in_err-delays-clause-replies
returns-in_err-delays-clause-replies g c =
    let bytes = c.in_ok-bytes.bytes.items in
    Replies-told (AreRefusedDelays c.netlist.result.now c.deref.result.now) (IsDelaysReply (g.S.Source.files c.args.source.now) c.args.pipeline.now c.args.run.now.delays.now c.args.run.now.words.now c.args.run.now.vcd)
    (λ text none. no_reading text (record {
      bytes = bytes;
      given = c.in_ok-bytes.ensures.bytes;
      is = subst (λ n. AreRefusedDelays n bytes text) c.netlist.ensures.netlist (subst (λ b. AreRefusedDelays c.netlist.result.now b text) c.deref.ensures.value none);
    }))
    c.in_err-delays.field-0.0 c.in_err-delays.ensures.refused c.from_residual-in_err-delays.result c.from_residual-in_err-delays.ensures.1

pub returns-clause-replies : goal.returns-clause-replies
returns-clause-replies g c =
    let p = c.args.pipeline.now in
    let d = c.in_ok-delays.delays in
    let bytes = c.in_ok-bytes.bytes.items in
    let said : AreDelaysText p.netlist bytes d =
    subst (λ n. AreDelaysText n bytes d) c.netlist.ensures.netlist (subst (λ b. AreDelaysText c.netlist.result.now b d) c.deref.ensures.value c.in_ok-delays.ensures.delays) in
    Replies-weaker _ (IsDelaysReply (g.S.Source.files c.args.source.now) p c.args.run.now.delays.now c.args.run.now.words.now c.args.run.now.vcd)
    (λ status text reply. reading d (record { bytes = bytes; given = c.in_ok-bytes.ensures.bytes; is = said }) status text (subst (λ told. IsWordsReply told p d c.args.run.now.words.now c.args.run.now.vcd status text) c.in_ok-bytes.ensures.files reply))
    c.words_reply.result c.words_reply.ensures.replies
