use Rattle.ncl_sim.proofs.Terms.{IsUnderWay, length, ◌-◌, ◌≡◌, ◌≤◌}
use Rattle.ncl_sim.proofs.run.Run.finish.Given as goal

abbrev pub invariant-loop-time : goal.invariant-loop-time
invariant-loop-time l =
    IsUnderWay l.course.pipeline l.course.delays l.self × (l.self.state.offered ≡ l.initial.self.state.offered) × (length l.self.steps.items ≤ l.most)

abbrev pub decreases-loop-time : goal.decreases-loop-time
decreases-loop-time l = l.most - length l.self.steps.items
