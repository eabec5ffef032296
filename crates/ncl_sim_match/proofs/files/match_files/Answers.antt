use Rattle.ncl_sim_match.proofs.Terms.{IsMatchReply, IsModelsMatched, IsPipelineText, IsReadReply-refused, IsRefusedText, no_reading, reading, subst}
use Rattle.ncl_sim_match.proofs.SimReplies.{Replies-shapeless, Replies-weaker, pipeline_from}
use Rattle.ncl_sim_match.proofs.files.match_files.Goals as goal

pub returns-in_err-netlist-clause-replies : goal.returns-in_err-netlist-clause-replies
returns-in_err-netlist-clause-replies g c =
    IsReadReply-refused IsRefusedText IsPipelineText (λ p. IsModelsMatched (g.S.Source.files c.args.source.now) p c.args.other.now.blif.now c.args.other.now.limit)
    _ _ _ c.in_err-netlist.ensures.refused c.from_residual.result c.from_residual.ensures.1

pub returns-in_err-pipeline-clause-replies : goal.returns-in_err-pipeline-clause-replies
returns-in_err-pipeline-clause-replies g c =
    Replies-shapeless _ _ c.in_ok-netlist.netlist c.in_ok-netlist.ensures.netlist (IsMatchReply (g.S.Source.files c.args.source.now) c.args.netlist.now c.args.other.now.blif.now c.args.other.now.limit)
    no_reading c.in_err-pipeline.field-0.0 c.in_err-pipeline.ensures.refused c.from_residual-in_err-pipeline.result c.from_residual-in_err-pipeline.ensures.1

pub returns-clause-replies : goal.returns-clause-replies
returns-clause-replies g c =
    let p = c.in_ok-pipeline.pipeline in
    let from = c.in_ok-netlist.ensures.netlist in
    let blif = c.args.other.now.blif.now in
    let limit = c.args.other.now.limit in
    Replies-weaker _ (IsMatchReply (g.S.Source.files c.args.source.now) c.args.netlist.now blif limit)
    (λ status text reply. reading p (pipeline_from _ _ c.in_ok-netlist.netlist p from c.in_ok-pipeline.ensures.pipeline) status text
    (subst (λ told. IsModelsMatched told p blif limit status text) c.in_ok-netlist.ensures.source.files reply))
    c.models_reply.result c.models_reply.ensures.replies
