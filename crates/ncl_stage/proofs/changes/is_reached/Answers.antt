use Rattle.ncl_stage.proofs.Terms.{All, IsUnreached, StageData, WiringData, ap, arith, get_or, length, length-map, list_any, net_at, pin_places, subst, sym, true, ℕ, ◌*◌, ◌+◌, ◌-◌, ◌<◌, ◌∙◌, ◌≡◌}
use Rattle.ncl_stage.proofs.ChangedLaws.{nets-length, net_at-rail, net_at-cell, pins-before, rail-unreached, unmarked-unreached}
use Rattle.ncl_stage.proofs.changes.is_reached.Goals as goal

pub returns-then-place-rails : goal.returns-then-place-rails
returns-then-place-rails c = λ none variant marks.
    let s : StageData = c.args.stage.now in
    let place = c.args.place in
    let bits : length c.items.result.now ≡ length s.inputs = ap length (c.items.ensures ∙ ap (λ (t : StageData). t.inputs) c.stage.view_is) in
    rail-unreached s c.args.wiring.now.order c.facts.ensures variant (net_at s place) (net_at-rail s place (subst (λ n. place < 2 * n) bits c.if-place-rails.true))

pub pins-requires : goal.pins-requires
pins-requires c =
    let s : StageData = c.args.stage.now in
    let w : WiringData = c.args.wiring.now in
    let bits : length c.items.result.now ≡ length s.inputs = ap length (c.items.ensures ∙ ap (λ (t : StageData). t.inputs) c.stage.view_is) in
    let many : length w.pins ≡ length s.cells = ap length c.requires.wiring.pins ∙ length-map s.cells (pin_places w.nets) in
    let size = nets-length s in
    let place = c.requires.place in
    let after = c.if-place-rails.false in
    omega arith

pub is_marked-requires : goal.is_marked-requires
is_marked-requires c =
    let s : StageData = c.args.stage.now in
    let bits : length c.items.result.now ≡ length s.inputs = ap length (c.items.ensures ∙ ap (λ (t : StageData). t.inputs) c.stage.view_is) in
    let size = nets-length s in
    let place = c.requires.place in
    let after = c.if-place-rails.false in
    let many = c.requires.many in
    subst (All (λ p. p < length c.args.changed.now)) (sym c.pins.ensures.pins)
    (pins-before s c.facts.ensures c.args.wiring.now c.requires.wiring (c.args.place - 2 * length c.items.result.now) (omega arith) (length c.args.changed.now) (omega arith))

pub returns : goal.returns
returns c = λ none variant marks.
    let s : StageData = c.args.stage.now in
    let i : ℕ = c.args.place - 2 * length c.items.result.now in
    let bits : length c.items.result.now ≡ length s.inputs = ap length (c.items.ensures ∙ ap (λ (t : StageData). t.inputs) c.stage.view_is) in
    let size = nets-length s in
    let place = c.requires.place in
    let after = c.if-place-rails.false in
    let at : c.args.place ≡ 2 * length s.inputs + i = omega arith in
    subst (IsUnreached c.args.wiring.now.order s variant) (sym (ap (net_at s) at ∙ net_at-cell s i))
    (unmarked-unreached s c.args.wiring.now.order c.requires.wiring.order c.facts.ensures c.args.wiring.now c.requires.wiring variant c.args.changed.now marks i (omega arith)
    (ap (list_any (λ p. get_or c.args.changed.now p true)) (sym c.pins.ensures.pins) ∙ sym c.is_marked.ensures ∙ none))
