use Rattle.ncl_rails.proofs.Terms.{Gate, List, NetId, [], ap, map, map-append, name_of_net, pair_names, sym, take_all, ℕ, ◌++◌, ◌∙◌, ◌∷◌, ◌≡◌}
use Rattle.ncl_rails.proofs.naming.part_of_gate.Goals as goal

pub returns : goal.returns
returns c =
    let label : NetId → List ℕ = λ net. name_of_net (pair_names c.args.ins.now) c.args.prefix.now net.0 in
    let all : c.loop-net.pins.items ≡ map label c.args.gate.now.ins.items =
    c.loop-net.invariant ∙ ap (map label) (take_all c.loop-net.net-index c.as_slice-net-items.result.now c.loop-net-test.false ∙ c.as_slice-net-items.ensures.value) in
    let pushed : c.push-2.new.self.items ≡ c.loop-net.pins.items ++ c.in_ok-name_of_net-2.field-0 ∷ [] = c.in_ok-push-2.ensures.items in
    let pins : c.from_vec.result ≡ map label (c.args.gate.now.ins.items ++ c.args.gate.now.out ∷ []) =
    c.from_vec.ensures ∙ pushed ∙ (λ i. all i ++ c.in_ok-name_of_net-2.ensures i ∷ []) ∙ sym (map-append label c.args.gate.now.ins.items (c.args.gate.now.out ∷ [])) in
    λ i. record { kind = Gate c.args.gate.now.kind; name = c.in_ok-name.ensures i; pins = pins i }
