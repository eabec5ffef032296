use Rattle.ncl_sim.proofs.RowLaws.{IfSome, PipelineData, candidate, meaning, net_of_step, output-there, subst, ◌≡◌}
use Rattle.ncl_sim.proofs.run.Run.fire.Goals as goal

pub net_by_row-requires : goal.net_by_row-requires
net_by_row-requires c = λ row at.
    let course = c.args.course.now in
    let s = meaning c.args.self.now.state in
    let net = c.in_ok-net.net in
    output-there course.pipeline course.delays c.rows.result.now c.rows.ensures c.facts.ensures.shape c.args.number row at s net
    (subst (λ (p : PipelineData). IfSome (net_of_step p s (candidate p s c.args.number)) (λ changed. net.0 ≡ changed)) c.pipeline-pipeline.ensures
    (subst (λ item. IfSome (net_of_step c.pipeline-pipeline.result.now s item) (λ changed. net.0 ≡ changed)) c.candidate-item.ensures.candidate c.in_ok-net.ensures.net))
