use Rattle.ncl_sim.proofs.QueueLaws.{IsFirst, IsQueueOf, NoneWaits, all_events, arith, empty-none_waits, length, out-first, out-waits, queue-rest, slice_get_within, subst, sym, ◌<◌, ◌∙◌}
use Rattle.ncl_sim.proofs.agenda.Agenda.take_first.Goals as goal

pub returns-in_default-clause-none : goal.returns-in_default-clause-none
returns-in_default-clause-none c =
    subst NoneWaits c.self.view_is (empty-none_waits c.self.inside.waits.items (all_events c.self.inside.queue) c.self.invariant c.in_default.ensures.none)

pub index_mut-requires : goal.index_mut-requires
index_mut-requires c =
    let within : c.in-Some.field-0.0.1 < length c.self.inside.waits.items = slice_get_within _ _ _ (out-waits c.self.inside.waits.items _ c.self.invariant _ _ c.in-Some.ensures.rest) in
    omega (arith, within, c.self.inside.waits.ok.0)

pub invariant_of-self-2 : goal.invariant_of-self-2
invariant_of-self-2 c = queue-rest c.self.inside.waits.items _ c.self.invariant _ _ c.in-Some.ensures.rest

pub returns-clause-first : goal.returns-clause-first
returns-clause-first c =
    subst (λ waits. IsFirst waits c.in-Some.field-0.0) c.self.view_is
    (out-first c.self.inside.waits.items _ c.self.invariant _ _ c.in-Some.ensures.rest c.in-Some.ensures.first)

pub invariant_of-self : goal.invariant_of-self
invariant_of-self c =
    subst (IsQueueOf c.self.inside.waits.items) (c.in_default.ensures.none ∙ sym c.in_default.ensures.left) c.self.invariant
