use Rattle.ncl_machine.proofs.Terms.{Bool, NetlistData, ap, arith, cond, driven_high, false, fun_ext, length, nat_eq, refl, true, ◌<◌, ◌||◌, ◌∙◌, ◌≡◌}
use Rattle.ncl_machine.proofs.ProgramEnds.{program_ends}
use Rattle.ncl_machine.proofs.ResetDrivers.{reset_by_drivers}
use Rattle.ncl_machine.proofs.ValueLists.{net_values-set}
use Rattle.ncl_machine.proofs.reset.settle.Goals as goal

no_more : (b : Bool) → (b || false) ≡ b
no_more true = refl
no_more false = refl

pub bounds-values-ki : goal.bounds-values-ki
bounds-values-ki c =
    let inside = (program_ends c.args.pipeline.now c.ki.ensures.shape).ki_within in
    omega (arith, inside, c.ki.ensures.ki, c.requires.nets, c.raise_driven.auto.values)

pub returns : goal.returns
returns c =
    let p = c.args.pipeline.now in
    let o = c.origins.result.now in
    let inside = (program_ends p c.ki.ensures.shape).ki_within in
    let within : c.ki.result.0 < length c.raise_driven.new.values = omega (arith, inside, c.ki.ensures.ki, c.requires.nets, c.raise_driven.auto.values) in
    net_values-set c.raise_driven.new.values c.ki.result.0 true within
    ∙ fun_ext (λ net.
    ap (λ (b : Bool). cond (nat_eq c.ki.result.0 net) true b)
    (c.raise_driven.ensures net ∙ ap (λ b. driven_high o o.netlist.cells net || b) (c.requires.low net) ∙ no_more (driven_high o o.netlist.cells net))
    ∙ ap (λ k. cond (nat_eq k net) true (driven_high o o.netlist.cells net)) c.ki.ensures.ki
    ∙ ap (λ (n : NetlistData). cond (nat_eq p.ki net) true (driven_high o n.cells net)) c.origins.ensures.netlist
    ∙ reset_by_drivers p c.ki.ensures.shape o c.origins.ensures.origins net)
