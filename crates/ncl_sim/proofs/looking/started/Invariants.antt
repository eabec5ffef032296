use Rattle.ncl_sim.proofs.Looks.{IsStarting}
use Rattle.ncl_sim.proofs.looking.started.Given as goal

abbrev pub invariant-loop-number : goal.invariant-loop-number
invariant-loop-number l = IsStarting l.course.pipeline l.course.delays l.state.offered l.number l.agenda
