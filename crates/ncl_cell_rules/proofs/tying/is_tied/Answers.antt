use Rattle.ncl_cell_rules.proofs.Terms.{IsSourceOf, ap, both_ways, inl, inr, is_some, refl, subst, sym, ◌∙◌}
use Rattle.ncl_cell_rules.proofs.PinNumbers.{output_within}
use Rattle.ncl_cell_rules.proofs.TreeTests.{ack_named, tree_sort, read_by_gate, marked_by_gate, request_by_first, first_by_request}
use Rattle.ncl_cell_rules.proofs.tying.is_tied.Goals as goal

pub returns-in_default : goal.returns-in_default
returns-in_default c = (
  (λ holds bank sort from.
      let n = c.args.origins.now.netlist in
      let is = c.netlist-netlist.ensures.origins.drivers.netlist in
      let inside = output_within n is c.args.cell.now c.requires.in_netlist in
      let is_s = subst (IsSourceOf n c.args.cell.now.out.0) (sym c.source.ensures.source) (c.netlist-netlist.ensures.origins.sources.each c.args.cell.now.out.0 inside) in
      let (r, named) = ack_named n is c.requires.unmixed c.args.cell.now c.requires.in_netlist sort c.source.result is_s bank from in
      absurd (c.in_default.not-Ack r named)),
  λ tied. refl,
)

pub returns-then-gate_reads-cell : goal.returns-then-gate_reads-cell
returns-then-gate_reads-cell c = (
  (λ holds bank sort from. inl (read_by_gate c.args.origins.now.netlist c.netlist-netlist.ensures.origins.drivers.netlist c.args.cell.now.out.0 (output_within c.args.origins.now.netlist c.netlist-netlist.ensures.origins.drivers.netlist c.args.cell.now c.requires.in_netlist) c.args.gate_reads.now c.requires.gate_reads c.if-gate_reads-cell.true)),
  λ tied. refl,
)

pub returns-then-is_some : goal.returns-then-is_some
returns-then-is_some c = (
  (λ holds bank sort from.
      inr (inl (request_by_first c.args.origins.now.netlist c.netlist-netlist.ensures.origins.drivers.netlist c.args.cell.now.out.0 (output_within c.args.origins.now.netlist c.netlist-netlist.ensures.origins.drivers.netlist c.args.cell.now c.requires.in_netlist) c.args.origins.now.firsts c.netlist-netlist.ensures.origins.firsts (ap is_some (sym c.first.ensures.first) ∙ sym c.is_some.ensures ∙ c.if-is_some.true)))),
  λ tied. refl,
)

pub returns : goal.returns
returns c = (
  (λ holds bank sort from. inr (inr ((rw c.netlist-netlist.ensures.netlist at c.is_output_port.ensures).0 holds))),
  λ tied.
      let n = c.args.origins.now.netlist in
      let cell = c.args.cell.now in
      let is = c.netlist-netlist.ensures.origins.drivers.netlist in
      let inside = output_within n is cell c.requires.in_netlist in
      let is_s = subst (IsSourceOf n cell.out.0) (sym c.source.ensures.source ∙ c.in-Ack.is) (c.netlist-netlist.ensures.origins.sources.each cell.out.0 inside) in
      elim (tied c.in-Ack.field-0.0 (tree_sort cell (sym c.is_register.ensures ∙ c.if-is_register.false)) is_s.comes) [
        | inl read ↦ absurd (both_ways _ c.if-gate_reads-cell.false (marked_by_gate n is cell.out.0 inside c.args.gate_reads.now c.requires.gate_reads read))
        | inr (inl request) ↦
            let some = first_by_request n is cell.out.0 inside c.args.origins.now.firsts c.netlist-netlist.ensures.origins.firsts request in
            absurd (both_ways c.is_some.result c.if-is_some.false (c.is_some.ensures ∙ ap is_some c.first.ensures.first ∙ some))
        | inr (inr port) ↦ (rw c.netlist-netlist.ensures.netlist at c.is_output_port.ensures).1 port
      ],
)
