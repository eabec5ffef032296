use Rattle.ncl_reach_top.proofs.Terms.{IfOk-weaker, IsReachReply, pipeline_text, refused, refused_reply, shapeless_told}
use Rattle.ncl_reach_top.proofs.Replies.{pipeline_reply, reach_works, reach_wrong}
use Rattle.ncl_reach_top.proofs.replying.reply.Goals as goal

pub returns-in-Err-clause-reply : goal.returns-in-Err-clause-reply
returns-in-Err-clause-reply c =
    let bytes = c.args.bytes.now in
    refused_reply (IsReachReply c.args.limit bytes) bytes refused c.refused.result c.refused.ensures.outcome (c.refused.ensures.text bytes c.in-Err.ensures.refused)

pub returns-clause-reply : goal.returns-clause-reply
returns-clause-reply c =
    let bytes = c.args.bytes.now in
    let none = shapeless_told bytes c.in-Ok.netlist c.in-Ok.ensures.netlist c.in-Err-pipeline_in.refusal c.in-Err-pipeline_in.ensures.refused in
    refused_reply (IsReachReply c.args.limit bytes) bytes refused c.refused-in-Err-pipeline_in.result c.refused-in-Err-pipeline_in.ensures.outcome (c.refused-in-Err-pipeline_in.ensures.text bytes none)

pub returns-in-Ok-pipeline_in-clause-reply : goal.returns-in-Ok-pipeline_in-clause-reply
returns-in-Ok-pipeline_in-clause-reply c =
    pipeline_reply c.args.limit c.args.bytes.now c.in-Ok-pipeline_in.pipeline
    (pipeline_text c.args.bytes.now c.in-Ok.netlist c.in-Ok-pipeline_in.pipeline c.in-Ok.ensures.netlist c.in-Ok-pipeline_in.ensures.pipeline)
    c.answered.result c.answered.ensures

pub returns-in-Ok-pipeline_in-clause-headline : goal.returns-in-Ok-pipeline_in-clause-headline
returns-in-Ok-pipeline_in-clause-headline c = IfOk-weaker c.answered.result _ _ (λ reply told e. reach_works c.args.limit c.args.bytes.now told e) (returns-in-Ok-pipeline_in-clause-reply c)

pub returns-in-Ok-pipeline_in-clause-refusal : goal.returns-in-Ok-pipeline_in-clause-refusal
returns-in-Ok-pipeline_in-clause-refusal c = IfOk-weaker c.answered.result _ _ (λ reply told e. reach_wrong c.args.limit c.args.bytes.now told e) (returns-in-Ok-pipeline_in-clause-reply c)
