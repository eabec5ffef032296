use Rattle.ncl_rails.proofs.Terms.{AddsAmong, All, AreLaidOut, IsNarrow, IsSource, Node, Signal, Waits, [], all_inputs, ap, arith, cost_of_inputs, get_or, length, length-map, length-take-le, map, node_function, refl, signal_pair, subst, sum_by, sum_by-take-le, sym, take, take_all, waits_at, waits_of, ◌+◌, ◌<◌, ◌∙◌, ◌≡◌}
use Rattle.ncl_rails.proofs.Laying.{AreLaidOut-none, turn_reads, turn_laid}
use Rattle.ncl_rails.proofs.layout.add_nodes.Goals as goal
use Rattle.ncl_rails.proofs.layout.add_nodes.Goals.{After-items}

pub loop-node-init : goal.loop-node-init
loop-node-init c = record {
  laid =
      subst (AreLaidOut c.args.inputs.now (waits_of c.args.waits.now) [] c.args.gates.now.cells) (sym c.new-pairs.ensures.items)
      (subst (λ cells. AreLaidOut c.args.inputs.now (waits_of c.args.waits.now) [] cells []) (sym (ap (λ g. g.cells) c.requires.none)) (AreLaidOut-none c.args.inputs.now (waits_of c.args.waits.now)));
  first = refl;
}

-- the node of this turn, and what is laid out before it
within : (c : After-items) → c.loop-node.node-index < length c.args.network.now.nodes
within c = omega (arith, c.loop-node-test.true, ap length c.items-node-items.ensures)

at : (c : After-items) → c.node-item.result ≡ get_or c.args.network.now.nodes c.loop-node.node-index c.node-item.result
at c = c.node-item.is ∙ ap (λ nodes. get_or nodes c.loop-node.node-index c.node-item.result) c.items-node-items.ensures

laid : (c : After-items) → AreLaidOut c.args.inputs.now (waits_of c.args.waits.now) (take c.loop-node.node-index c.args.network.now.nodes) c.loop-node.gates.cells c.loop-node.pairs.items
laid c =
    subst (λ nodes. AreLaidOut c.args.inputs.now (waits_of c.args.waits.now) (take c.loop-node.node-index nodes) c.loop-node.gates.cells c.loop-node.pairs.items) c.items-node-items.ensures c.loop-node.invariant.laid

pub signal_pairs-requires : goal.signal_pairs-requires
signal_pairs-requires c =
    subst (λ pairs. All (λ (s : Signal). IsSource (length c.args.inputs.now) (length pairs) s.from) c.items.result.now) (sym c.deref.ensures.value)
    (subst (All (λ (s : Signal). IsSource (length c.args.inputs.now) (length c.loop-node.pairs.items) s.from)) (sym c.items.ensures)
    (turn_reads c.args.network.now (waits_of c.args.waits.now) c.requires.complete c.args.inputs.now c.requires.inputs c.loop-node.node-index c.node-item.result (within c) (at c) c.loop-node.gates.cells c.loop-node.pairs.items (laid c)))

pub loop-node-preserved : goal.loop-node-preserved
loop-node-preserved c =
    let within : c.loop-node.node-index < length c.args.network.now.nodes = omega (arith, c.loop-node-test.true, ap length c.items-node-items.ensures) in
    let at : c.node-item.result ≡ get_or c.args.network.now.nodes c.loop-node.node-index c.node-item.result = c.node-item.is ∙ ap (λ nodes. get_or nodes c.loop-node.node-index c.node-item.result) c.items-node-items.ensures in
    let laid : AreLaidOut c.args.inputs.now (waits_of c.args.waits.now) (take c.loop-node.node-index c.args.network.now.nodes) c.loop-node.gates.cells c.loop-node.pairs.items = subst (λ nodes. AreLaidOut c.args.inputs.now (waits_of c.args.waits.now) (take c.loop-node.node-index nodes) c.loop-node.gates.cells c.loop-node.pairs.items) c.items-node-items.ensures c.loop-node.invariant.laid in
    let shown : c.deref-in-loop-node.result.now ≡ map (signal_pair c.args.inputs.now c.loop-node.pairs.items) c.node-item.result.ins =
    c.deref-in-loop-node.ensures.value ∙ c.in_ok-ins.ensures ∙ (λ i. map (signal_pair c.args.inputs.now (c.deref.ensures.value i)) (c.items.ensures i)) in
    let wait_is = c.waits_at-waited.ensures ∙ ap (λ k. get_or c.args.waits.now k all_inputs) (c.len.ensures ∙ c.loop-node.pairs.ok.0 ∙ laid.pairs_as_many ∙ length-take-le c.loop-node.node-index c.args.network.now.nodes (omega (arith, within))) in
    let adds = subst (λ (w : Waits). AddsAmong (node_function c.node-item.result) c.deref-in-loop-node.result.now (waits_at w) (cost_of_inputs (length c.node-item.result.ins)) c.loop-node.gates.cells c.add_waiting.new.gates.cells c.in_ok-pair.pair) wait_is c.in_ok-pair.ensures.template in
    record {
      laid =
          subst (λ nodes. AreLaidOut c.args.inputs.now (waits_of c.args.waits.now) (take (c.loop-node.node-index + 1) nodes) c.add_waiting.new.gates.cells c.push.new.self.items) (sym c.items-node-items.ensures)
          (turn_laid c.args.network.now (waits_of c.args.waits.now) c.requires.complete c.args.inputs.now c.requires.inputs c.loop-node.node-index c.node-item.result within at c.loop-node.gates.cells c.loop-node.pairs.items laid
          c.deref-in-loop-node.result.now shown c.add_waiting.new.gates.cells c.in_ok-pair.pair adds c.push.new.self.items c.in_ok-push.ensures.items);
      first = c.in_ok-pair.ensures.first ∙ c.loop-node.invariant.first;
    }

pub add_waiting-requires-clause-narrow : goal.add_waiting-requires-clause-narrow
add_waiting-requires-clause-narrow c =
    let within : c.loop-node.node-index < length c.args.network.now.nodes = omega (arith, c.loop-node-test.true, ap length c.items-node-items.ensures) in
    subst IsNarrow (sym (c.node-item.is ∙ ap (λ nodes. get_or nodes c.loop-node.node-index c.node-item.result) c.items-node-items.ensures)) (c.requires.complete.varying.nodes c.loop-node.node-index c.node-item.result within)

pub add_waiting-requires-clause-as_many : goal.add_waiting-requires-clause-as_many
add_waiting-requires-clause-as_many c =
    ap length (c.deref-in-loop-node.ensures.value ∙ c.in_ok-ins.ensures) ∙ length-map c.items.result.now (signal_pair c.args.inputs.now c.deref.result.now) ∙ ap length c.items.ensures

pub add_waiting-requires-clause-room : goal.add_waiting-requires-clause-room
add_waiting-requires-clause-room c =
    let cost = λ (n : Node). cost_of_inputs (length n.ins) in
    let cells = c.loop-node.invariant.laid.few in
    let some = sum_by-take-le cost c.items-node-items.result.now c.loop-node.node-index in
    let all = ap (sum_by cost) c.items-node-items.ensures in
    let first = c.loop-node.invariant.first ∙ ap (λ g. g.first) c.requires.none in
    omega (arith, cells, some, all, first, c.requires.room)

pub returns-clause-laid_out : goal.returns-clause-laid_out
returns-clause-laid_out c =
    subst (λ nodes. AreLaidOut c.args.inputs.now (waits_of c.args.waits.now) nodes c.loop-node.gates.cells c.loop-node.pairs.items)
    (take_all c.loop-node.node-index c.items-node-items.result.now c.loop-node-test.false ∙ c.items-node-items.ensures) c.loop-node.invariant.laid
