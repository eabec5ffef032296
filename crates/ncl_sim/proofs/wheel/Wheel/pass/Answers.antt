use Rattle.ncl_sim.proofs.CalendarLaws.{WheelData, ap, tables, wheel-pass, ◌∙◌}
use Rattle.ncl_sim.proofs.wheel.Wheel.pass.Goals as goal

pub invariant_of-self : goal.invariant_of-self
invariant_of-self c =
    wheel-pass c.self.inside.time c.self.inside.idle (tables c.self.inside.lists.items) c.self.invariant c.args.time
    (ap (λ (w : WheelData). w.waiting) c.self.view_is ∙ c.requires)
