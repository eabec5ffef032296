use Rattle.ncl_shape.proofs.Terms.{Ack, AckOf, IsSourceOf, NetId, ap, arith, both_ways, get_or, length-map, named, no_net, numbers_of, only_from_source, refl, slice_get_within, subst, sym, ◌+◌, ◌-◌}
use Rattle.ncl_shape.proofs.AcknowledgeLaws.{acknowledged, acknowledged_more, acknowledged_at}
use Rattle.ncl_shape.proofs.NetSources.{source_of_origin}
use Rattle.ncl_shape.proofs.BankNets.{chain_within}
use Rattle.ncl_shape.proofs.acknowledging.is_acknowledged.Goals as goal
use Rattle.ncl_shape.proofs.acknowledging.is_acknowledged.Goals.{After-source}

pub source-requires : goal.source-requires
source-requires c =
    let some = c.loop-next.auto.next in
    chain_within c.args.origins.now.netlist c.facts.ensures.drivers.netlist c.args.banks.now c.requires.chain (c.loop-next.next - 1) no_net (omega (arith, some, c.loop-next-test.true))

-- the source that is read is that of the request
is_source : (c : After-source) → IsSourceOf c.args.origins.now.netlist (get_or c.args.banks.now (c.loop-next.next - 1) no_net).0 c.source.result
is_source c =
    let some = c.loop-next.auto.next in
    let inside = chain_within c.args.origins.now.netlist c.facts.ensures.drivers.netlist c.args.banks.now c.requires.chain (c.loop-next.next - 1) no_net (omega (arith, some, c.loop-next-test.true)) in
    subst (IsSourceOf c.args.origins.now.netlist _) (sym c.source.ensures.source) (c.facts.ensures.sources.each _ inside)

pub returns-then-not-same_source : goal.returns-then-not-same_source
returns-then-not-same_source c = (
  (λ never. absurd cc),
  λ acks.
      let n = c.args.origins.now.netlist in
      let banks = c.args.banks.now in
      let i = c.loop-next.next in
      let only = acknowledged_at n banks i no_net acks c.loop-next.auto.next c.loop-next-test.true in
      absurd (both_ways c.same_source.result c.if-not-same_source.true
      (c.same_source.ensures.1 (source_of_origin n c.facts.ensures.drivers.netlist c.requires.free (get_or banks (i - 1) no_net).0 c.source.result (Ack (get_or banks i no_net)) (AckOf (get_or banks i no_net).0) (is_source (goal.at.returns-then-not-same_source c).After-source) only.comes refl))),
)

pub loop-next-preserved : goal.loop-next-preserved
loop-next-preserved c =
    let n = c.args.origins.now.netlist in
    let banks = c.args.banks.now in
    let i = c.loop-next.next in
    let is_s = is_source (goal.at.loop-next-preserved c).After-source in
    let only = only_from_source n c.facts.ensures.drivers.netlist (get_or banks (i - 1) no_net).0 c.source.result (AckOf (get_or banks i no_net).0) is_s (ap named (c.same_source.ensures.0 c.if-not-same_source.false)) in
    acknowledged_more n banks i no_net c.loop-next.invariant c.loop-next.auto.next c.loop-next-test.true only

pub returns : goal.returns
returns c = (
  (λ holds. acknowledged c.args.origins.now.netlist c.facts.ensures.drivers.netlist c.requires.free (numbers_of c.args.banks.now) c.requires.chain c.requires.ends
      (λ k bank next at at_next.
      let within = slice_get_within (numbers_of c.args.banks.now) (k + 1) next at_next in
      let as_many = length-map c.args.banks.now (λ (net : NetId). net.0) in
      c.loop-next.invariant k bank next (omega (arith, within, as_many, c.loop-next-test.false)) at at_next)),
  λ acks. refl,
)
