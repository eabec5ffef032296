use Rattle.ncl_cell_rules.proofs.Terms.{IsSummary, NetId, OfNets, get_or, subst, sym, take_all, take_more}
use Rattle.ncl_cell_rules.proofs.SourceSteps.{joined}
use Rattle.ncl_cell_rules.proofs.source.source_of_nets.Goals as goal

pub loop-k-preserved : goal.loop-k-preserved
loop-k-preserved c =
    let k = c.loop-k.k in
    let nets = c.args.nets.now in
    let zero : NetId = record { 0 = 0 } in
    let source = joined c.args.netlist.now _ (get_or nets k zero) _ _ _ c.join-source.ensures c.loop-k.invariant (c.requires.known k zero c.loop-k-test.true) in
    subst (λ l. IsSummary (OfNets c.args.netlist.now l) c.join-source.result) (sym (take_more nets k zero c.loop-k-test.true)) source

pub returns : goal.returns
returns c = subst (λ l. IsSummary (OfNets c.args.netlist.now l) c.loop-k.source) (take_all c.loop-k.k c.args.nets.now c.loop-k-test.false) c.loop-k.invariant
