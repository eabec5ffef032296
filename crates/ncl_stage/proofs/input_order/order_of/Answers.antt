use Rattle.ncl_stage.proofs.Terms.{All, AreMet, IsOrderOf, IsWiring, List, ReadEarlier, StageData, WiringData, [], ap, arith, bit_order, flat_map, length, length-map, map, met, net_at, nets_of, pin_places, rail_places, range_with_len, refl, subst, sym, unwrap_or, with_bits, ℕ, ◌*◌, ◌++◌, ◌+◌, ◌<◌, ◌∙◌, ◌≡◌, ◌≤◌}
use Rattle.ncl_stage.proofs.BitOrderLaws.{are_met, order-walked, read-earlier}
use Rattle.ncl_stage.proofs.ChangedLaws.{nets-length}
use Rattle.ncl_stage.proofs.OrderedTables.{order-is}
use Rattle.ncl_stage.proofs.OutputLaws.{outputs-within}
use Rattle.ncl_stage.proofs.input_order.order_of.Goals as goal

pub walked-requires-clause-earlier : goal.walked-requires-clause-earlier
walked-requires-clause-earlier c =
    let s : StageData = c.args.stage.now in
    let inputs : c.items.result.now ≡ s.inputs = c.items.ensures ∙ ap (λ (t : StageData). t.inputs) c.stage.view_is in
    subst (λ n. ReadEarlier n (map (λ p. p.items) c.args.pins.now)) (sym (ap length inputs))
    (subst (ReadEarlier (length s.inputs)) (sym c.requires.pins) (read-earlier s c.facts.ensures))

pub walked-requires-clause-within : goal.walked-requires-clause-within
walked-requires-clause-within c =
    let s : StageData = c.args.stage.now in
    let nets : List ℕ = nets_of s.inputs s.cells in
    let w : WiringData = record { nets = nets; pins = map (pin_places nets) s.cells; outputs = map (rail_places nets) s.outputs; order = bit_order s } in
    let wired : IsWiring s w = record { nets = refl; pins = refl; outputs = refl; order = order-is s } in
    let inputs : length c.items.result.now ≡ length s.inputs = ap length (c.items.ensures ∙ ap (λ (t : StageData). t.inputs) c.stage.view_is) in
    let cells : length c.args.pins.now ≡ length s.cells = sym (length-map c.args.pins.now (λ p. p.items)) ∙ ap length c.requires.pins ∙ length-map s.cells (pin_places nets) in
    let many : 2 * length c.items.result.now + length c.args.pins.now ≡ length nets = omega (arith, nets-length s, inputs, cells) in
    subst (All (λ pair. (pair.0 < 2 * length c.items.result.now + length c.args.pins.now) × (pair.1 < 2 * length c.items.result.now + length c.args.pins.now))) (sym c.requires.outputs)
    (outputs-within s c.facts.ensures w wired (2 * length c.items.result.now + length c.args.pins.now) many)

pub returns : goal.returns
returns c =
    let s : StageData = c.args.stage.now in
    let inputs : length c.items.result.now ≡ length s.inputs = ap length (c.items.ensures ∙ ap (λ (t : StageData). t.inputs) c.stage.view_is) in
    let f : ℕ → List ℕ = λ place. met s (length s.cells) (net_at s place) in
    let are : AreMet (length c.items.result.now) (map (λ p. p.items) c.args.pins.now) f =
    subst (λ n. AreMet n (map (λ p. p.items) c.args.pins.now) f) (sym inputs) (subst (λ pins. AreMet (length s.inputs) pins f) (sym c.requires.pins) (are_met s c.facts.ensures)) in
    c.in_ok-places.ensures f are
    ∙ (λ k. with_bits [] (flat_map (λ (pair : ℕ × ℕ). f pair.0 ++ f pair.1) (c.requires.outputs k) ++ range_with_len 0 (inputs k)))
    ∙ order-walked s c.facts.ensures
    ∙ ap (λ given. unwrap_or given (bit_order s)) (sym c.in_default.is)

pub invariant_of-result : goal.invariant_of-result
invariant_of-result c =
    let s : StageData = c.args.stage.now in
    let inputs : length c.items.result.now ≡ length s.inputs = ap length (c.items.ensures ∙ ap (λ (t : StageData). t.inputs) c.stage.view_is) in
    let f : ℕ → List ℕ = λ place. met s (length s.cells) (net_at s place) in
    let are : AreMet (length c.items.result.now) (map (λ p. p.items) c.args.pins.now) f =
    subst (λ n. AreMet n (map (λ p. p.items) c.args.pins.now) f) (sym inputs) (subst (λ pins. AreMet (length s.inputs) pins f) (sym c.requires.pins) (are_met s c.facts.ensures)) in
    let is : c.in_ok-places.places.keys ≡ bit_order s =
    c.in_ok-places.ensures f are
    ∙ (λ k. with_bits [] (flat_map (λ (pair : ℕ × ℕ). f pair.0 ++ f pair.1) (c.requires.outputs k) ++ range_with_len 0 (inputs k)))
    ∙ order-walked s c.facts.ensures in
    let many = (order-is s).many in
    let few = c.facts.ensures.few_inputs in
    subst (λ order. IsOrderOf (length order) order × (length order ≤ 128)) (sym is) (subst (λ n. IsOrderOf n (bit_order s)) (sym many) (order-is s), omega (arith, many, few))
