use Rattle.ncl_sim.proofs.QueueLaws.{None, all_events, ap, empty-queue, replicate, rules, ◌≡◌}
use Rattle.ncl_sim.proofs.agenda.Agenda.new.Goals as goal

pub invariant_of-result : goal.invariant_of-result
invariant_of-result c =
    let none : c.in_ok-waits.waits.items ≡ replicate c.args.count None = search rules in
    empty-queue c.in_ok-waits.waits.items _ c.args.count none (ap all_events c.in_ok-queue.ensures)
