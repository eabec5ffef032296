use Rattle.ncl_shape.proofs.Terms.{HasOnlyOrigin, IsSourceOf, RailOf, names_rail, one_origin, output_within, source_from_only, subst, sym}
use Rattle.ncl_shape.proofs.stage_cells.gate_of_bank.Goals as goal

pub returns-in_default-source : goal.returns-in_default-source
returns-in_default-source c = record {
  gate = tt;
  reads = tt;
  none = λ bank kind is_gate from.
      let n = c.args.origins.now.netlist in
      let out = c.args.cell.now.out.0 in
      let is = c.facts.ensures.drivers.netlist in
      let inside = output_within n is c.args.cell.now c.requires.in_netlist in
      let is_source = subst (IsSourceOf n out) (sym c.source.ensures.source) (c.facts.ensures.sources.each out inside) in
      let only : HasOnlyOrigin n out (RailOf bank) = record { comes = from; only = λ other comes. one_origin n is c.requires.free out other (RailOf bank) comes from } in
      let (r, named) = names_rail c.source.result bank (source_from_only n is out c.source.result (RailOf bank) is_source only) in
      c.in_default-source.not-Rail r named;
}
