use Rattle.ncl_rails.proofs.Terms.{All, AreLaidOut, IsSource, Signal, ap, input_pairs, length, map, signal_pair, subst, sym, waits_of, ◌∙◌, ◌≡◌}
use Rattle.ncl_rails.proofs.Laying.{length-input_pairs}
use Rattle.ncl_rails.proofs.layout.lay_out.Goals as goal

pub signal_pairs-requires : goal.signal_pairs-requires
signal_pairs-requires c =
    let inputs : length c.deref-2.result.now ≡ c.args.network.now.inputs = length-input_pairs c.deref-2.result.now c.args.network.now.inputs (c.deref-2.ensures.value ∙ c.in_ok-inputs.ensures) in
    let pairs : length c.deref-3.result.now ≡ length c.args.network.now.nodes = ap length c.deref-3.ensures.value ∙ c.in_ok-pairs.ensures.laid_out.pairs_as_many in
    subst (λ n. All (λ (s : Signal). IsSource n (length c.deref-3.result.now) s.from) c.items.result.now) (sym inputs)
    (subst (λ k. All (λ (s : Signal). IsSource c.args.network.now.inputs k s.from) c.items.result.now) (sym pairs)
    (subst (All (λ (s : Signal). IsSource c.args.network.now.inputs (length c.args.network.now.nodes) s.from)) (sym c.items.ensures) c.requires.complete.varying.outputs_exist))

pub returns : goal.returns
returns c =
    let inputs : c.deref.result.now ≡ input_pairs c.args.network.now.inputs = c.deref.ensures.value ∙ c.in_ok-inputs.ensures in
    let inputs_2 : c.deref-2.result.now ≡ input_pairs c.args.network.now.inputs = c.deref-2.ensures.value ∙ c.in_ok-inputs.ensures in
    record {
      pairs = c.in_ok-pairs.pairs.items;
      first = c.in_ok-pairs.ensures.first ∙ ap (λ g. g.first) c.new-gates.ensures;
      nodes = subst (λ rs. AreLaidOut rs (waits_of c.args.waits.now) c.args.network.now.nodes c.add_nodes.new.gates.cells c.in_ok-pairs.pairs.items) inputs c.in_ok-pairs.ensures.laid_out;
      outputs = c.in_ok-outputs.ensures ∙ (λ i. map (signal_pair (inputs_2 i) (c.deref-3.ensures.value i)) (c.items.ensures i));
    }
