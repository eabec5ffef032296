use Rattle.std.proofs.lemmas.Result.{IfOk-weaker}
use Rattle.runs.proofs.merging.is_accepted.Goals as goal

pub returns : goal.returns
returns c = IfOk-weaker c.are_accepted.result _ _
    (λ accepted sound is. record {
      pipeline = c.in_ok-pipeline.pipeline;
      shape = c.in_ok-pipeline.ensures.shape;
      sound = sound is;
    })
    c.are_accepted.ensures
