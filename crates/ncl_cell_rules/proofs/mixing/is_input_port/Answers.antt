use Rattle.ncl_cell_rules.proofs.Terms.{cases_Bool, inl, inr, sym, ◌∙◌}
use Rattle.ncl_cell_rules.proofs.SourceTests.{none_from, some_from, port_of_none, none_of_port}
use Rattle.ncl_cell_rules.proofs.mixing.is_input_port.Goals as goal

pub returns : goal.returns
returns c =
    let n = c.args.origins.now.netlist in
    let are = c.driver.ensures.origins.drivers in (
      (λ none. port_of_none n _ are c.args.net.0 c.requires.inside (sym c.driver.ensures.driver ∙ none_from c.driver.result c.is_none.result c.is_none.ensures none)),
      λ input. elim (cases_Bool c.is_none.result) [
        | inl none ↦ none
        | inr some ↦ absurd (some_from c.driver.result c.is_none.result c.is_none.ensures some (c.driver.ensures.driver ∙ none_of_port n _ are c.args.net.0 input))
      ],
    )
