use Rattle.ncl_check.proofs.Terms.{IsCheckReply, refused}
use Rattle.ncl_check.proofs.Refusing.{shapeless_told}
use Rattle.ncl_check.proofs.Replying.{pipeline_text, refused_reply, judged_reply, reply_works, reply_wrong}
use Rattle.ncl_check.proofs.checking.check.Goals as goal

pub returns-in-Err-clause-reply : goal.returns-in-Err-clause-reply
returns-in-Err-clause-reply g c =
    let bytes = c.args.bytes.now in
    refused_reply (IsCheckReply c.args.limit c.args.why bytes) bytes refused c.refused.result c.refused.ensures.outcome (c.refused.ensures.text bytes c.in-Err.ensures.refused)

pub returns-clause-reply : goal.returns-clause-reply
returns-clause-reply g c =
    let bytes = c.args.bytes.now in
    let none = shapeless_told bytes c.in-Ok.netlist c.in-Ok.ensures.netlist c.in-Err-pipeline_in.refusal c.in-Err-pipeline_in.ensures.refused in
    refused_reply (IsCheckReply c.args.limit c.args.why bytes) bytes refused c.refused-in-Err-pipeline_in.result c.refused-in-Err-pipeline_in.ensures.outcome (c.refused-in-Err-pipeline_in.ensures.text bytes none)

pub returns-in-Ok-pipeline_in-clause-reply : goal.returns-in-Ok-pipeline_in-clause-reply
returns-in-Ok-pipeline_in-clause-reply g c =
    judged_reply c.args.limit c.args.why c.args.bytes.now c.in-Ok-pipeline_in.pipeline
    (pipeline_text c.args.bytes.now c.in-Ok.netlist c.in-Ok-pipeline_in.pipeline c.in-Ok.ensures.netlist c.in-Ok-pipeline_in.ensures.pipeline)
    c.judged.result c.judged.ensures.outcome c.judged.ensures.text

pub returns-in-Ok-pipeline_in-clause-headline : goal.returns-in-Ok-pipeline_in-clause-headline
returns-in-Ok-pipeline_in-clause-headline g c = reply_works c.args.limit c.args.why c.args.bytes.now c.judged.result (returns-in-Ok-pipeline_in-clause-reply g c)

pub returns-in-Ok-pipeline_in-clause-refusal : goal.returns-in-Ok-pipeline_in-clause-refusal
returns-in-Ok-pipeline_in-clause-refusal g c = reply_wrong c.args.limit c.args.why c.args.bytes.now c.judged.result (returns-in-Ok-pipeline_in-clause-reply g c)
