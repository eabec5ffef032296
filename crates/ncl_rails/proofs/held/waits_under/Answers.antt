use Rattle.ncl_rails.proofs.Terms.{WaitsFor, subst, sym, waits_at, ◌∙◌}
use Rattle.ncl_rails.proofs.held.waits_under.Goals as goal

pub returns-in-Some : goal.returns-in-Some
returns-in-Some c = λ yes value has.
    subst (λ word. WaitsFor (waits_at c.args.waits word) c.args.ins.now c.args.source) (c.deref.ensures.0 ∙ sym (c.in-Some.ensures value has)) (c.waits_for.ensures yes)
