use Rattle.ncl_plans.proofs.Terms.{Adds, Form, FromNode, IsFormOver, List, Signal, Small, form_value, length, subst, sym, ℕ}
use Rattle.ncl_plans.proofs.Pools.{Adds-found, Adds-pushed}
use Rattle.ncl_plans.proofs.pool.Pool.put.Goals as goal

-- what a form adds to small nodes
abbrev Puts : ℕ → List Small → List Small → Signal → Form → Type 0
Puts inputs before after signal form =
    IsFormOver inputs (length before) form → Adds inputs before after (λ word nodes. form_value word nodes form) signal

pub returns-in-Some : goal.returns-in-Some
returns-in-Some c = λ inputs pool over.
    subst (Puts inputs c.args.self.now.smalls.items c.args.self.now.smalls.items (record { from = FromNode c.in-Some.place; inverted = c.in-New.inverted })) (sym c.in-New.is)
    (λ _. Adds-found inputs c.args.self.now.smalls.items c.in-New.small c.in-New.inverted pool c.in-Some.place c.in-Some.ensures) over

pub returns-in_ok-place-in-None : goal.returns-in_ok-place-in-None
returns-in_ok-place-in-None c = λ inputs pool over.
    let place = c.in_ok-place-in-None.place in
    subst (Puts inputs c.args.self.now.smalls.items c.push.new.self.smalls.items (record { from = FromNode place; inverted = c.in-New.inverted })) (sym c.in-New.is)
    (λ there. Adds-pushed inputs c.args.self.now.smalls.items c.in-New.small c.in-New.inverted pool place c.push.new.self.smalls.items c.in_ok-place-in-None.ensures.0 c.in_ok-place-in-None.ensures.1 there) over
