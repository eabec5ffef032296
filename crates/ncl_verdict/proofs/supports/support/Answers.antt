use Rattle.ncl_verdict.proofs.Terms.{All, All-contains, IsPart, List, StageData, WiringData, [], ap, arith, get_or, is_set, length, length-map, mask_at, nets-length, pin_places, pins-before, place_in, subst, sym, true, ℕ, ◌*◌, ◌+◌, ◌-◌, ◌/◌, ◌<◌, ◌∙◌, ◌≡◌}
use Rattle.ncl_verdict.proofs.supports.support.Goals as goal

pub rail_mask-requires-clause-bit : goal.rail_mask-requires-clause-bit
rail_mask-requires-clause-bit c =
    let bits = ap length (c.items.ensures ∙ ap (λ (t : StageData). t.inputs) c.stage.view_is) in
    let many = ap length c.order.ensures ∙ c.requires.wiring.order.many in
    omega (arith, bits, many, c.if-place-rails.true)

pub rail_mask-requires-clause-few : goal.rail_mask-requires-clause-few
rail_mask-requires-clause-few c =
    let many = ap length c.order.ensures ∙ c.requires.wiring.order.many in
    omega (arith, many, c.facts.ensures.few_inputs)

pub returns-then-place-rails : goal.returns-then-place-rails
returns-then-place-rails c =
    let s : StageData = c.args.stage.now in
    let bits = ap length (c.items.ensures ∙ ap (λ (t : StageData). t.inputs) c.stage.view_is) in
    let told = subst (λ (o : List ℕ). place_in o (c.args.place / 2) + 3 < length o → is_set c.rail_mask.result (place_in o (c.args.place / 2)) ≡ true) c.order.ensures c.rail_mask.ensures in
    record {
      rail = λ lt before. told (omega (arith, before, c.requires.wiring.order.many));
      cell = λ after pin has. absurd (omega (arith, after, bits, c.if-place-rails.true));
    }

pub pins-requires : goal.pins-requires
pins-requires c =
    let s : StageData = c.args.stage.now in
    let bits = ap length (c.items.ensures ∙ ap (λ (t : StageData). t.inputs) c.stage.view_is) in
    let many = ap (λ (w : WiringData). length w.pins) c.wiring.ensures ∙ ap length c.requires.wiring.pins ∙ length-map s.cells (pin_places c.args.base.now.wiring.nets) in
    omega (arith, bits, many, nets-length s, c.requires.place, c.if-place-rails.false)

pub all_of-requires : goal.all_of-requires
all_of-requires c =
    let s : StageData = c.args.stage.now in
    let bits = ap length (c.items.ensures ∙ ap (λ (t : StageData). t.inputs) c.stage.view_is) in
    subst (All (λ p. p < length c.args.masks.now)) (sym (c.pins.ensures.pins ∙ ap (λ (w : WiringData). get_or w.pins (c.args.place - 2 * length c.items.result.now) []) c.wiring.ensures))
    (pins-before s c.facts.ensures c.args.base.now.wiring c.requires.wiring (c.args.place - 2 * length c.items.result.now) (omega (arith, bits, nets-length s, c.requires.place, c.if-place-rails.false)) (length c.args.masks.now) (omega (arith, bits, c.requires.many, c.if-place-rails.false)))

pub returns : goal.returns
returns c =
    let s : StageData = c.args.stage.now in
    let bits = ap length (c.items.ensures ∙ ap (λ (t : StageData). t.inputs) c.stage.view_is) in
    let pins = c.pins.ensures.pins ∙ ap (λ (w : WiringData). get_or w.pins (c.args.place - 2 * length c.items.result.now) []) c.wiring.ensures ∙ ap (λ n. get_or c.args.base.now.wiring.pins (c.args.place - 2 * n) []) bits in
    record {
      rail = λ lt before. absurd (omega (arith, lt, bits, c.if-place-rails.false));
      cell = λ after pin has. All-contains (λ p. IsPart (mask_at c.args.masks.now p) c.all_of.result) (get_or c.args.base.now.wiring.pins (c.args.place - 2 * length s.inputs) []) pin (subst (All (λ p. IsPart (mask_at c.args.masks.now p) c.all_of.result)) pins c.all_of.ensures) has;
    }
