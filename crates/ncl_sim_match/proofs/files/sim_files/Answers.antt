use Rattle.ncl_sim_match.proofs.Terms.{HasGraphicNames, IsDelaysReply, IsPipelineText, IsReadReply-refused, IsRefusedText, IsSimReply, graphic_names, no_reading, reading, subst, sym}
use Rattle.ncl_sim_match.proofs.SimReplies.{Replies-shapeless, Replies-weaker, pipeline_from}
use Rattle.ncl_sim_match.proofs.files.sim_files.Goals as goal

pub returns-in_err-netlist-clause-replies : goal.returns-in_err-netlist-clause-replies
returns-in_err-netlist-clause-replies g c =
    let run = c.args.run.now in
    IsReadReply-refused IsRefusedText IsPipelineText (λ p. IsDelaysReply (g.S.Source.files c.args.source.now) p run.delays.now run.words.now run.vcd)
    _ _ _ c.in_err-netlist.ensures.refused c.from_residual.result c.from_residual.ensures.1

pub returns-in_err-pipeline-clause-replies : goal.returns-in_err-pipeline-clause-replies
returns-in_err-pipeline-clause-replies g c =
    let run = c.args.run.now in
    Replies-shapeless _ _ c.in_ok-netlist.netlist c.in_ok-netlist.ensures.netlist (IsSimReply (g.S.Source.files c.args.source.now) c.args.netlist.now run.delays.now run.words.now run.vcd)
    no_reading c.in_err-pipeline.field-0.0 c.in_err-pipeline.ensures.refused c.from_residual-in_err-pipeline.result c.from_residual-in_err-pipeline.ensures.1

-- what was read has names of printing characters
pub delays_reply-requires-clause-names : goal.delays_reply-requires-clause-names
delays_reply-requires-clause-names g c =
    let from = c.in_ok-netlist.ensures.netlist in
    subst HasGraphicNames (sym c.in_ok-pipeline.ensures.pipeline.netlist) (subst HasGraphicNames (sym from.is.netlist) (graphic_names from.bytes from.is.parts from.is.reads))

pub returns-clause-replies : goal.returns-clause-replies
returns-clause-replies g c =
    let p = c.in_ok-pipeline.pipeline in
    let from = c.in_ok-netlist.ensures.netlist in
    let run = c.args.run.now in
    Replies-weaker _ (IsSimReply (g.S.Source.files c.args.source.now) c.args.netlist.now run.delays.now run.words.now run.vcd)
    (λ status text reply. reading p (pipeline_from _ _ c.in_ok-netlist.netlist p from c.in_ok-pipeline.ensures.pipeline) status text
    (subst (λ told. IsDelaysReply told p run.delays.now run.words.now run.vcd status text) c.in_ok-netlist.ensures.source.files reply))
    c.delays_reply.result c.delays_reply.ensures.replies
