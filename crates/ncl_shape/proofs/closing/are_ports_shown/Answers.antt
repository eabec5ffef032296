use Rattle.ncl_shape.proofs.Terms.{IsShownPort, IsSourceOf, Rail, RailOf, ap, arith, below_more, both_ways, inl, inr, length, named, only_from_source, port_read, ports-le-nets, refl, same_unless, slice_get_within, subst, sym, ◌<◌}
use Rattle.ncl_shape.proofs.NetSources.{source_of_origin}
use Rattle.ncl_shape.proofs.PortRoles.{no_output, ports_passed}
use Rattle.ncl_shape.proofs.ShownNets.{nets_differ}
use Rattle.ncl_shape.proofs.closing.are_ports_shown.Goals as goal
use Rattle.ncl_shape.proofs.closing.are_ports_shown.Goals.{else-port-via-then-port+then-ne+else-not-same_source, else-port-via-then-port+else-ne, else-port-via-else-port}

pub returns-then-not-same_source : goal.returns-then-not-same_source
returns-then-not-same_source c = (
  (λ never. absurd cc),
  λ shown.
      let n = c.args.origins.now.netlist in
      let is = c.netlist.ensures.origins.drivers.netlist in
      let net = c.loop-place.place in
      let at = port_read n c.ports-port-items.result.now net c.port-item.result (rw c.netlist.ensures.netlist at c.ports-port-items.ensures.ports) c.loop-place-test.true c.port-item.is in
      let inside : net < length n.nets = omega (arith, slice_get_within n.ports net c.port-item.result at, ports-le-nets n is) in
      let is_s = subst (IsSourceOf n net) (sym c.source.ensures.source) (c.netlist.ensures.origins.sources.each net inside) in
      elim (shown net (c.port-item.result, at, c.if-port.true)) [
        | inl same ↦ absurd (nets_differ net c.args.root.0 c.ne.result c.ne.ensures c.if-ne.true same)
        | inr from ↦ absurd (both_ways c.same_source.result c.if-not-same_source.true (c.same_source.ensures.1 (source_of_origin n is c.requires.free net c.source.result (Rail c.args.last) (RailOf c.args.last.0) is_s from refl)))
      ],
)

pub loop-place-preserved : goal.loop-place-preserved
loop-place-preserved c =
    let n = c.args.origins.now.netlist in
    let is = c.netlist.ensures.origins.drivers.netlist in
    let net = c.loop-place.place in
    let at = port_read n c.ports-port-items.result.now net c.port-item.result (rw c.netlist.ensures.netlist at c.ports-port-items.ensures.ports) c.loop-place-test.true c.port-item.is in
    let inside : net < length n.nets = omega (arith, slice_get_within n.ports net c.port-item.result at, ports-le-nets n is) in
    below_more (IsShownPort n c.args.root.0 c.args.last.0) net c.loop-place.invariant
    (elim c.else-port.branch [
      | else-port-via-then-port+then-ne+else-not-same_source w ↦
          λ output.
          let is_s = subst (IsSourceOf n net) (sym w.source.ensures.source) (c.netlist.ensures.origins.sources.each net inside) in
          let only = only_from_source n is net w.source.result (RailOf c.args.last.0) is_s (ap named (w.same_source.ensures.0 w.if-not-same_source.false)) in
          inr only.comes
      | else-port-via-then-port+else-ne w ↦ λ output. inl (same_unless net c.args.root.0 w.ne.result w.ne.ensures w.if-ne.false)
      | else-port-via-else-port w ↦ λ output. absurd (no_output n net c.port-item.result at w.if-port.false output)
    ])

pub returns : goal.returns
returns c = (
  (λ holds net output. c.loop-place.invariant net (ports_passed c.args.origins.now.netlist _ (rw c.netlist.ensures.netlist at c.ports-port-items.ensures.ports) _ c.loop-place-test.false net output.0 output.1) output),
  λ shown. refl,
)
