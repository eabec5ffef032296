use Rattle.ncl_machine.proofs.Terms.{NetlistData, ap, arith, both_ways, cases_lt, false, inl, inr, is_excited, length, net_values, refl, slice_get_past, sym, ◌∙◌}
use Rattle.ncl_machine.proofs.state.State.cells_rest.Goals as goal

pub returns-then-is_excited : goal.returns-then-is_excited
returns-then-is_excited c = (λ none. absurd (both_ways false refl none), λ all. absurd (both_ways _ (all (record { 0 = c.loop-k.k })) (sym c.is_excited.ensures ∙ c.if-is_excited.true)))

pub returns : goal.returns
returns c = (
  λ _ cell. elim (cases_lt cell.0 c.loop-k.k) [
    | inl lt ↦ c.loop-k.invariant cell.0 lt
    | inr past ↦ ap (is_excited (net_values c.args.self.now.values)) (slice_get_past c.args.pipeline.now.netlist.cells cell.0 (omega (arith, past, c.loop-k-test.false, ap length c.cells-k-end.ensures.cells, ap (λ (n : NetlistData). length n.cells) c.netlist.ensures.netlist)))
  ],
  λ _. refl,
)
