use Rattle.ncl_reach_top.proofs.Terms.{IsPipelineReply, Unjudged, past, subst, sym}
use Rattle.ncl_reach_top.proofs.replying.past_limit.Goals as goal

pub returns : goal.returns
returns c = subst (IsPipelineReply c.args.limit c.args.pipeline.now Unjudged) (sym c.in_ok-text.ensures) (past c.args.stage c.requires)
