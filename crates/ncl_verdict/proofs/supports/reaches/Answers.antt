use Rattle.ncl_verdict.proofs.Terms.{All, AreReaches, List, StageData, WiringData, [], ap, arith, common_steps, drop, get_or, length, length-map, nets-length, outputs-within, pin_places, pins-before, subst, sym, take, ℕ, ◌*◌, ◌++◌, ◌+◌, ◌<◌, ◌∙◌, ◌≡◌}
use Rattle.ncl_verdict.proofs.supports.reaches.Goals as goal

pub spread-requires-clause-cells : goal.spread-requires-clause-cells
spread-requires-clause-cells c =
    let s : StageData = c.args.stage.now in
    ap length (c.items.ensures ∙ ap (λ (t : StageData). t.cells) c.stage.view_is)
    ∙ sym (ap (λ (w : WiringData). length w.pins) c.wiring.ensures ∙ ap length c.requires.wiring.pins ∙ length-map s.cells (pin_places c.args.base.now.wiring.nets))

pub spread-requires-clause-outputs : goal.spread-requires-clause-outputs
spread-requires-clause-outputs c =
    let s : StageData = c.args.stage.now in
    subst (λ (w : WiringData). All (λ pair. (pair.0 < length c.args.masks.now) × (pair.1 < length c.args.masks.now)) w.outputs) (sym c.wiring.ensures)
    (outputs-within s c.facts.ensures c.args.base.now.wiring c.requires.wiring (length c.args.masks.now) (c.requires.many ∙ ap length c.requires.wiring.nets))

pub spread-requires-clause-many : goal.spread-requires-clause-many
spread-requires-clause-many c =
    let bits = ap length (c.items-bits.ensures ∙ ap (λ (t : StageData). t.inputs) c.stage.view_is) in
    let cells = ap length (c.items.ensures ∙ ap (λ (t : StageData). t.cells) c.stage.view_is) in
    omega (arith, bits, cells, nets-length c.args.stage.now, c.requires.many, ap length c.requires.wiring.nets)

pub spread-requires-clause-earlier : goal.spread-requires-clause-earlier
spread-requires-clause-earlier c = λ cell lt.
    let s : StageData = c.args.stage.now in
    let bits = ap length (c.items-bits.ensures ∙ ap (λ (t : StageData). t.inputs) c.stage.view_is) in
    let cells = ap length (c.items.ensures ∙ ap (λ (t : StageData). t.cells) c.stage.view_is) in
    subst (λ (w : WiringData). All (λ p. p < 2 * length c.items-bits.result.now + cell) (get_or w.pins cell [])) (sym c.wiring.ensures)
    (pins-before s c.facts.ensures c.args.base.now.wiring c.requires.wiring cell (omega (arith, lt, cells)) (2 * length c.items-bits.result.now + cell) (omega (arith, bits)))

pub spread-requires-clause-own : goal.spread-requires-clause-own
spread-requires-clause-own c = c.deref_mut.ensures.value ∙ c.in_ok-reaches.ensures

-- a slice that stands for all of a list is all of the list afterwards
whole : (len : ℕ) (new old : List ℕ) → len ≡ length old → length new ≡ length old → take len (new ++ drop (length new) old) ≡ new
whole len new old all many = grind (arith, common_steps)

pub returns-clause-many : goal.returns-clause-many
returns-clause-many c =
    let same : length c.spread.new.reaches ≡ length c.in_ok-reaches.reaches.items = c.spread.auto.reaches ∙ ap length c.deref_mut.ensures.value in
    ap length (whole c.in_ok-reaches.reaches.len c.spread.new.reaches c.in_ok-reaches.reaches.items c.in_ok-reaches.reaches.ok.0 same) ∙ same ∙ ap length c.in_ok-reaches.ensures

pub returns-clause-reaches : goal.returns-clause-reaches
returns-clause-reaches c =
    let same : length c.spread.new.reaches ≡ length c.in_ok-reaches.reaches.items = c.spread.auto.reaches ∙ ap length c.deref_mut.ensures.value in
    let bits = ap length (c.items-bits.ensures ∙ ap (λ (t : StageData). t.inputs) c.stage.view_is) in
    subst (AreReaches 0 (length c.args.stage.now.inputs) c.args.base.now.wiring c.args.masks.now) (sym (whole c.in_ok-reaches.reaches.len c.spread.new.reaches c.in_ok-reaches.reaches.items c.in_ok-reaches.reaches.ok.0 same))
    (subst (λ n. AreReaches 0 n c.args.base.now.wiring c.args.masks.now c.spread.new.reaches) bits (subst (λ w. AreReaches 0 (length c.items-bits.result.now) w c.args.masks.now c.spread.new.reaches) c.wiring.ensures c.spread.ensures))
