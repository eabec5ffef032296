use Rattle.ncl_sim.proofs.Quiet.{IfOk-weaker, IsTimedRun, Tells, stopped-run, stopped-takes, ◌∙◌}
use Rattle.ncl_sim.proofs.simulator.run_of.Goals as goal

pub trace_of-requires : goal.trace_of-requires
trace_of-requires c = stopped-takes c.args.course.now.pipeline c.args.course.now.delays c.finish.new.self c.in_ok-end.end c.in_ok-end.ensures.stopped

pub returns : goal.returns
returns c =
    IfOk-weaker c.trace_of.result (Tells c.finish.new.self c.in_ok-end.end) (IsTimedRun c.args.course.now.pipeline c.args.course.now.delays c.args.words.now)
    (λ t. stopped-run c.args.course.now.pipeline c.args.course.now.delays c.finish.new.self c.in_ok-end.end c.args.words.now t c.in_ok-end.ensures.stopped
    (c.in_ok-end.ensures.offered ∙ c.in_ok-run.ensures.offered))
    c.trace_of.ensures
