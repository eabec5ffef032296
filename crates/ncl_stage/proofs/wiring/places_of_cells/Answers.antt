use Rattle.ncl_stage.proofs.Terms.{All, Contains, NetId, StageCell, StageData, [], ap, cell-read, get_or, length, map, map-append, map_push, pin_places, reads-within, subst, sym, take_all, ◌∙◌, ◌∷◌, ◌≡◌, ◌≤◌}
use Rattle.ncl_stage.proofs.wiring.places_of_cells.Goals as goal

pub places_of_pins-requires : goal.places_of_pins-requires
places_of_pins-requires c =
    let s : StageData = c.args.stage.now in
    let i = c.loop-cell.cell-index in
    let cell : StageCell = c.cell-item.result in
    let (within, at) = cell-read s c.items-cell-items.result.now i cell (c.items-cell-items.ensures ∙ ap (λ (t : StageData). t.cells) c.stage.view_is) c.loop-cell-test.true c.cell-item.is in
    subst (λ (x : StageCell). All (λ (net : NetId). Contains c.args.nets.now.keys net.0) x.ins.items) (sym at)
    (subst (λ nets. All (λ (net : NetId). Contains nets net.0) (get_or s.cells i cell).ins.items) (sym c.requires) (reads-within s c.facts.ensures i cell within))

pub loop-cell-preserved : goal.loop-cell-preserved
loop-cell-preserved c =
    let s : StageData = c.args.stage.now in
    let i = c.loop-cell.cell-index in
    let cell : StageCell = c.cell-item.result in
    let (within, at) = cell-read s c.items-cell-items.result.now i cell (c.items-cell-items.ensures ∙ ap (λ (t : StageData). t.cells) c.stage.view_is) c.loop-cell-test.true c.cell-item.is in
    map_push (pin_places c.args.nets.now.keys) s.cells i cell (map (λ p. p.items) c.loop-cell.places.items) (map (λ p. p.items) c.push.new.self.items) c.places_of_pins.result.items within c.loop-cell.invariant
    (c.places_of_pins.ensures ∙ ap (pin_places c.args.nets.now.keys) at)
    (ap (map (λ p. p.items)) c.in_ok-push.ensures.items ∙ map-append (λ p. p.items) c.loop-cell.places.items (c.places_of_pins.result ∷ []))

pub returns : goal.returns
returns c =
    let s : StageData = c.args.stage.now in
    let cells : c.items-cell-items.result.now ≡ s.cells = c.items-cell-items.ensures ∙ ap (λ (t : StageData). t.cells) c.stage.view_is in
    c.loop-cell.invariant ∙ ap (map (pin_places c.args.nets.now.keys)) (take_all c.loop-cell.cell-index s.cells (subst (λ xs. length xs ≤ c.loop-cell.cell-index) cells c.loop-cell-test.false))
