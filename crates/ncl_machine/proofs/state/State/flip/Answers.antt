use Rattle.ncl_machine.proofs.Terms.{Contains, Held, IsCounted, LevelsData, length, not, rail_nets, subst, sym, the_view, vec_capacity, ◌<◌, ◌≤◌}
use Rattle.ncl_machine.proofs.SourceCounts.{apart-counted}
use Rattle.ncl_machine.proofs.state.State.flip.Goals as goal

pub invariant_of-self : goal.invariant_of-self
invariant_of-self c =
    let h : Held = the_view c.self.inside in
    let within = subst (λ (h : Held). c.args.net.0 < length h.values) (sym c.self.view_is) c.requires.within in
    let apart = subst (λ (h : Held). Contains (rail_nets h.inputs) c.args.net.0 → ⊥) (sym c.self.view_is) c.requires.apart in
    subst (λ (d : LevelsData). IsCounted (record h { outputs = d.outputs; values = d.values }) c.self.inside.raised × (c.self.inside.due ≤ vec_capacity c.self.inside.delivered))
    (sym c.put.ensures)
    (apart-counted h c.self.inside.raised c.self.invariant.0 c.args.net.0 (not c.value-value.result) within apart h.delivered, c.self.invariant.1)
