use Rattle.ncl_sim.proofs.QueueLaws.{ap, queue-more, slice_get, ◌∙◌}
use Rattle.ncl_sim.proofs.agenda.Agenda.wait.Goals as goal

pub invariant_of-self-2 : goal.invariant_of-self-2
invariant_of-self-2 c =
    queue-more c.self.inside.waits.items _ c.self.invariant c.args.number c.args.due _ (ap (λ ws. slice_get ws c.args.number) c.self.view_is ∙ c.requires)
    c.in_ok-push.ensures.more
