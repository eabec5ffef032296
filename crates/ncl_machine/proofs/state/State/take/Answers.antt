use Rattle.ncl_machine.proofs.Terms.{Held, IsCounted, LevelsData, arith, false, subst, sym, the_view, vec_capacity, ◌≤◌}
use Rattle.ncl_machine.proofs.SourceCounts.{apart-counted}
use Rattle.ncl_machine.proofs.state.State.take.Goals as goal

pub invariant_of-self-2 : goal.invariant_of-self-2
invariant_of-self-2 c =
    let h : Held = the_view c.self.inside in
    let is : IsCounted h c.self.inside.raised = c.self.invariant.0 in
    let room : c.self.inside.due ≤ vec_capacity c.push.new.self = omega (arith, c.self.invariant.1, c.push.ensures.capacity) in
    subst (λ (d : LevelsData). IsCounted (record h { outputs = d.outputs; values = d.values; delivered = c.push.new.self.items }) c.self.inside.raised
    × (c.self.inside.due ≤ vec_capacity c.push.new.self))
    (sym c.put.ensures)
    (apart-counted h c.self.inside.raised is c.self.inside.ki.0 false is.ki_within is.ki_apart c.push.new.self.items, room)
