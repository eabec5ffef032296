use Rattle.ncl_shape.proofs.Terms.{ap, both_ways, cases_Bool, first_by_request, inl, inr, is_some, none_from, none_of_port, port_of_none, request_by_first, some_from, sym, ◌∙◌}
use Rattle.ncl_shape.proofs.ends.is_last_bank.Goals as goal

pub returns-then-is_some : goal.returns-then-is_some
returns-then-is_some c = (
  (λ holds. record {
    is_bank = request_by_first c.args.origins.now.netlist c.first.ensures.origins.drivers.netlist c.args.bank.0 c.requires.inside c.args.origins.now.firsts c.first.ensures.origins.firsts (ap is_some (sym c.first.ensures.first) ∙ sym c.is_some.ensures ∙ c.if-is_some.true);
    request = port_of_none c.args.origins.now.netlist c.args.origins.now.drivers c.first.ensures.origins.drivers c.args.bank.0 c.requires.inside (sym c.driver.ensures.driver ∙ none_from c.driver.result c.is_none.result c.is_none.ensures holds);
  }),
  λ last.
      let none = none_of_port c.args.origins.now.netlist c.args.origins.now.drivers c.first.ensures.origins.drivers c.args.bank.0 last.request in
      elim (cases_Bool c.is_none.result) [
        | inl holds ↦ holds
        | inr fails ↦ absurd (some_from c.driver.result c.is_none.result c.is_none.ensures fails (c.driver.ensures.driver ∙ none))
      ],
)

pub returns-else-is_some : goal.returns-else-is_some
returns-else-is_some c = (
  (λ holds. absurd (both_ways c.is_some.result c.if-is_some.false holds)),
  λ last.
      let some = first_by_request c.args.origins.now.netlist c.first.ensures.origins.drivers.netlist c.args.bank.0 c.requires.inside c.args.origins.now.firsts c.first.ensures.origins.firsts last.is_bank in
      absurd (both_ways c.is_some.result c.if-is_some.false (c.is_some.ensures ∙ ap is_some c.first.ensures.first ∙ some)),
)
