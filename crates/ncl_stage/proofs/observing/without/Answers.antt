use Rattle.ncl_stage.proofs.Terms.{All, AreValues, Base, IfOk-weaker, IsLive, IsSpace, IsStage, IsWiring, List, NetId, Ref, SpaceData, StageCell, StageData, Th12, ValuesData, WiringData, [], ap, arity_of, constant_table, false, gate, gate_table, get_or, get_or_default, if◌then◌else◌, length, length-map, map, nat_eq, net_at, nets_of, place_in, reads-within, ref_at, subst, sym, table_without, ℕ, ◌<◌, ◌∙◌, ◌≡◌}
use Rattle.ncl_stage.proofs.ChangedLaws.{values-width}
use Rattle.ncl_stage.proofs.NetLaws.{pins-of}
use Rattle.ncl_stage.proofs.ObservingLaws.{PinsWithout, pins-without, without-table}
use Rattle.ncl_stage.proofs.observing.without.Goals as goal

-- the places of the pins of a cell
pin-places : (s : StageData) (v w : WiringData) → v ≡ w → IsWiring s w → (cell : ℕ) → cell < length s.cells → (d : StageCell) (pins : List ℕ) → pins ≡ get_or v.pins cell [] → pins ≡ map (λ (net : NetId). place_in (nets_of s.inputs s.cells) net.0) (get_or s.cells cell d).ins.items
pin-places s v w same wired cell lt d pins read = read ∙ ap (λ (x : WiringData). get_or x.pins cell []) same ∙ pins-of s w wired cell d lt

-- what is told of the Refs at them
told : (space : SpaceData) → IsSpace space → (s : StageData) → IsStage s → (base : ValuesData) (are : AreValues space s Base base) (place : ℕ) → place < length (nets_of s.inputs s.cells) → (never : Ref) → IsLive space never → space.table never ≡ constant_table space.width false → (cell : ℕ) → cell < length s.cells → (d : StageCell)
    → PinsWithout s base.wiring.order are.wired.order space base.refs place never (get_or s.cells cell d).ins.items
told space space_is s is base are place lt never live zero cell within d =
    pins-without s base.wiring.order are.wired.order is space (values-width space s Base base space_is is are) base.refs are.shown place lt never live zero (get_or s.cells cell d).ins.items (reads-within s is cell d within)

pub refs_without-ins-requires-clause-within : goal.refs_without-ins-requires-clause-within
refs_without-ins-requires-clause-within g c =
    let d : StageCell = gate 0 Th12 [] 0 in
    let old : SpaceData = g.P.Space.meaning c.args.space.now in
    let pins = pin-places c.args.stage.now c.wiring.result.now c.args.base.now.wiring c.wiring.ensures c.requires.base.wired c.args.cell c.requires.cell d c.pins.result.now c.pins.ensures.pins in
    let are = told old c.facts-2.ensures c.args.stage.now c.facts.ensures c.args.base.now c.requires.base c.args.place c.requires.place c.constant-never.result c.constant-never.ensures.live c.constant-never.ensures.table c.args.cell c.requires.cell d in
    subst (All (λ p. p < length c.refs.result.now)) (sym pins)
    (subst (λ (refs : List Ref). All (λ p. p < length refs) (map (λ (net : NetId). place_in (nets_of c.args.stage.now.inputs c.args.stage.now.cells) net.0) (get_or c.args.stage.now.cells c.args.cell d).ins.items)) (sym c.refs.ensures.refs) are.within)

pub apply-requires-clause-live : goal.apply-requires-clause-live
apply-requires-clause-live g c =
    let d : StageCell = gate 0 Th12 [] 0 in
    let old : SpaceData = g.P.Space.meaning c.args.space.now in
    let pins = pin-places c.args.stage.now c.wiring.result.now c.args.base.now.wiring c.wiring.ensures c.requires.base.wired c.args.cell c.requires.cell d c.pins.result.now c.pins.ensures.pins in
    let are = told old c.facts-2.ensures c.args.stage.now c.facts.ensures c.args.base.now c.requires.base c.args.place c.requires.place c.constant-never.result c.constant-never.ensures.live c.constant-never.ensures.table c.args.cell c.requires.cell d in
    subst (All (IsLive old)) (sym (c.as_slice.ensures.value ∙ c.refs_without-ins.ensures ∙ (λ k. map (λ p. if nat_eq p c.args.place then c.constant-never.result else ref_at (c.refs.ensures.refs k) p) (pins k)))) are.live

pub returns-clause-table : goal.returns-clause-table
returns-clause-table g c = λ d.
    let s : StageData = c.args.stage.now in
    let old : SpaceData = g.P.Space.meaning c.args.space.now in
    let new : SpaceData = g.P.Space.meaning c.apply.new.self in
    let order : List ℕ = c.args.base.now.wiring.order in
    let pins = pin-places s c.wiring.result.now c.args.base.now.wiring c.wiring.ensures c.requires.base.wired c.args.cell c.requires.cell d c.pins.result.now c.pins.ensures.pins in
    let are = told old c.facts-2.ensures s c.facts.ensures c.args.base.now c.requires.base c.args.place c.requires.place c.constant-never.result c.constant-never.ensures.live c.constant-never.ensures.table c.args.cell c.requires.cell d in
    let own : get_or c.items.result.now c.args.cell c.index-items-cell.result ≡ get_or s.cells c.args.cell d =
    ap (λ (xs : List StageCell). get_or xs c.args.cell c.index-items-cell.result) (c.items.ensures ∙ ap (λ (t : StageData). t.cells) c.stage.view_is) ∙ get_or_default s.cells c.args.cell c.index-items-cell.result d c.requires.cell in
    let ins = c.as_slice.ensures.value ∙ c.refs_without-ins.ensures ∙ (λ k. map (λ p. if nat_eq p c.args.place then c.constant-never.result else ref_at (c.refs.ensures.refs k) p) (pins k)) in
    let table = ap (λ (x : StageCell). gate_table old.width x.kind (map old.table c.as_slice.result.now)) own
    ∙ without-table s order c.requires.base.wired.order old (values-width old s Base c.args.base.now c.facts-2.ensures c.facts.ensures c.requires.base) c.args.base.now.refs c.args.place c.constant-never.result (get_or s.cells c.args.cell d) are c.as_slice.result.now ins in
    IfOk-weaker c.apply.result _ (λ fallen. new.table fallen ≡ table_without order s (net_at s c.args.place) (get_or s.cells c.args.cell d)) (λ fallen made. made.table ∙ table) c.apply.ensures.made

pub bounds-items-cell : goal.bounds-items-cell
bounds-items-cell g c = subst (λ (xs : List StageCell). c.args.cell < length xs) (sym (c.items.ensures ∙ ap (λ (t : StageData). t.cells) c.stage.view_is)) c.requires.cell

pub bounds-items-cell-2 : goal.bounds-items-cell-2
bounds-items-cell-2 g c = subst (λ (xs : List StageCell). c.args.cell < length xs) (sym (c.items.ensures ∙ ap (λ (t : StageData). t.cells) c.stage.view_is)) c.requires.cell

pub returns-clause-kept : goal.returns-clause-kept
returns-clause-kept g c = c.apply.ensures.kept

pub apply-requires-clause-arity : goal.apply-requires-clause-arity
apply-requires-clause-arity g c =
    let s : StageData = c.args.stage.now in
    let d : StageCell = gate 0 Th12 [] 0 in
    let pins = pin-places s c.wiring.result.now c.args.base.now.wiring c.wiring.ensures c.requires.base.wired c.args.cell c.requires.cell d c.pins.result.now c.pins.ensures.pins in
    let own : get_or c.items.result.now c.args.cell c.index-items-cell.result ≡ get_or s.cells c.args.cell d =
    ap (λ (xs : List StageCell). get_or xs c.args.cell c.index-items-cell.result) (c.items.ensures ∙ ap (λ (t : StageData). t.cells) c.stage.view_is) ∙ get_or_default s.cells c.args.cell c.index-items-cell.result d c.requires.cell in
    ap length (c.as_slice.ensures.value ∙ c.refs_without-ins.ensures) ∙ length-map c.pins.result.now (λ p. if nat_eq p c.args.place then c.constant-never.result else ref_at c.refs.result.now p)
    ∙ ap length pins ∙ length-map (get_or s.cells c.args.cell d).ins.items (λ (net : NetId). place_in (nets_of s.inputs s.cells) net.0)
    ∙ c.facts.ensures.arities c.args.cell d c.requires.cell ∙ sym (ap (λ (x : StageCell). arity_of x.kind) own)

pub returns-clause-live : goal.returns-clause-live
returns-clause-live g c = IfOk-weaker c.apply.result _ (IsLive (g.P.Space.meaning c.apply.new.self)) (λ r made. made.live) c.apply.ensures.made
