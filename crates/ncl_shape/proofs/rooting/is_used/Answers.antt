use Rattle.ncl_shape.proofs.Terms.{ap, both_ways, first_by_request, inl, inr, is_some, refl, request_by_first, sym, ◌∙◌}
use Rattle.ncl_shape.proofs.rooting.is_used.Goals as goal

pub returns-then-is_some : goal.returns-then-is_some
returns-then-is_some c = (
  (λ holds. inl (request_by_first c.args.origins.now.netlist c.first.ensures.origins.drivers.netlist c.args.net.0 c.requires.inside c.args.origins.now.firsts c.first.ensures.origins.firsts (ap is_some (sym c.first.ensures.first) ∙ sym c.is_some.ensures ∙ c.if-is_some.true))),
  λ used. refl,
)

pub returns : goal.returns
returns c = (
  (λ holds. inr ((rw c.netlist.ensures.netlist at c.is_output_port.ensures).0 holds)),
  λ used. elim used [
    | inl request ↦
        let some = first_by_request c.args.origins.now.netlist c.first.ensures.origins.drivers.netlist c.args.net.0 c.requires.inside c.args.origins.now.firsts c.first.ensures.origins.firsts request in
        absurd (both_ways c.is_some.result c.if-is_some.false (c.is_some.ensures ∙ ap is_some c.first.ensures.first ∙ some))
    | inr shown ↦ (rw c.netlist.ensures.netlist at c.is_output_port.ensures).1 shown
  ],
)
