use Rattle.ncl_shape.proofs.Terms.{IsSourceOf, Rail, RailOf, both_ways, output_within, refl, subst, sym}
use Rattle.ncl_shape.proofs.NetSources.{source_of_origin}
use Rattle.ncl_shape.proofs.closing.is_shown_cell.Goals as goal

pub returns-then-not-same_source : goal.returns-then-not-same_source
returns-then-not-same_source c = (
  (λ holds from.
      let n = c.args.origins.now.netlist in
      let is = c.netlist-netlist.ensures.origins.drivers.netlist in
      let net = c.args.cell.now.out.0 in
      let is_s = subst (IsSourceOf n net) (sym c.source.ensures.source) (c.netlist-netlist.ensures.origins.sources.each net (output_within n is c.args.cell.now c.requires.in_netlist)) in
      absurd (both_ways c.same_source.result c.if-not-same_source.true (c.same_source.ensures.1 (source_of_origin n is c.requires.free net c.source.result (Rail c.args.last) (RailOf c.args.last.0) is_s from refl)))),
  λ shown. refl,
)
