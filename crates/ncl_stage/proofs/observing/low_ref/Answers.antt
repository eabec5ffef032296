use Rattle.ncl_stage.proofs.Terms.{All, Base, HaveTables, IfOk-weaker, IsLive, IsStage, IsWiring, Kind, List, Member-get_or, NetId, Ref, SpaceData, StageCell, StageData, WiringData, [], ap, arith, arity_of, dual-arity, dual_of, dual_pins, dual_pins-length, gate_table, get_or, length, length-map, low_table_by, low_tables_by, map, net_at, nets_of, out_of, pin_places, place_in, ref_at, rules, subst, sym, take, take-map, ℕ, ◌*◌, ◌+◌, ◌-◌, ◌<◌, ◌∙◌, ◌≡◌}
use Rattle.ncl_stage.proofs.ChangedLaws.{nets-before, nets-length, net_at-cell, value-at, values-width, behind-inputs}
use Rattle.ncl_stage.proofs.NetLaws.{Shows, cell-refs, out_at-is, pins-of}
use Rattle.ncl_stage.proofs.ObservingLaws.{dual_pins-all, low-cell, low-place}
use Rattle.ncl_stage.proofs.observing.low_ref.Goals as goal

-- what the Refs at the pins of a gate have, of where the nets before it are low
record LowPins (space : SpaceData) (s : StageData) (order : List ℕ) (kind : Kind) (place : ℕ) (lows : List Ref) (pins : List ℕ) : Type 0 where
  within : All (λ pin. pin < length lows) pins
  arity : length pins ≡ arity_of kind
  live : All (IsLive space) (dual_pins kind (map (ref_at lows) pins))
  made : gate_table space.width (dual_of kind) (map space.table (dual_pins kind (map (ref_at lows) pins))) ≡ low_table_by order s (net_at s place)

pins-at : (s : StageData) → IsStage s → (w : WiringData) → IsWiring s w → (place i : ℕ) → (i < length s.cells) × (place ≡ 2 * length s.inputs + i) → (cells : List StageCell) → cells ≡ s.cells → (d : StageCell) (space : SpaceData) → space.width ≡ length s.inputs → (lows : List Ref) → HaveTables space lows (take place (low_tables_by w.order s)) → (v : WiringData) → v ≡ w → (pins : List ℕ) → pins ≡ get_or v.pins i []
    → LowPins space s w.order (get_or cells i d).kind place lows pins
pins-at s is w wired place i (lt, at) cells same d space width lows have v wiring pins are = record {
  within = shown.within;
  arity = arity ∙ ap arity_of kind;
  live = dual_pins-all (IsLive space) (get_or cells i d).kind (map (ref_at lows) pins) shown.live;
  made =
      ap (λ k. gate_table space.width (dual_of k) (map space.table (dual_pins k (map (ref_at lows) pins)))) (sym kind)
      ∙ low-cell s w.order wired.order is (get_or s.cells i d) (Member-get_or s.cells i d lt) (is.arities i d lt) space width (map (ref_at lows) pins) shown.tables
      ∙ ap (low_table_by w.order s) (sym net);
}
  where
    kind : (get_or s.cells i d).kind ≡ (get_or cells i d).kind
    kind = ap (λ (xs : List StageCell). (get_or xs i d).kind) (sym same)

    net : net_at s place ≡ out_of (get_or s.cells i d)
    net = ap (net_at s) at ∙ net_at-cell s i ∙ out_at-is s i d lt

    own : pins ≡ pin_places (nets_of s.inputs s.cells) (get_or s.cells i d)
    own = are ∙ ap (λ (x : WiringData). get_or x.pins i []) wiring ∙ pins-of s w wired i d lt

    before : take place (low_tables_by w.order s) ≡ map (low_table_by w.order s) (nets_of s.inputs (take i s.cells))
    before = take-map (low_table_by w.order s) place (nets_of s.inputs s.cells) ∙ ap (map (low_table_by w.order s)) (ap (λ n. take n (nets_of s.inputs s.cells)) at ∙ nets-before s i)

    shown : Shows space (low_table_by w.order s) lows (get_or s.cells i d).ins.items pins
    shown =
        subst (Shows space (low_table_by w.order s) lows (get_or s.cells i d).ins.items) (sym own)
        (cell-refs space s is (low_table_by w.order s) i d lt lows (subst (HaveTables space lows) before have))

    arity : length pins ≡ arity_of (get_or s.cells i d).kind
    arity = ap length own ∙ length-map (get_or s.cells i d).ins.items (λ (net : NetId). place_in (nets_of s.inputs s.cells) net.0) ∙ is.arities i d lt

pub bounds-refs-other_rail : goal.bounds-refs-other_rail
bounds-refs-other_rail g c =
    let s : StageData = c.args.stage.now in
    let bits = ap length (c.items.ensures ∙ ap (λ (t : StageData). t.inputs) c.stage.view_is) in
    let other = low-place s c.args.base.now.wiring.order c.requires.base.wired.order c.facts.ensures c.args.place (omega (arith, bits, c.if-place-rails.true)) c.other_rail.result c.other_rail.ensures in
    omega (arith, other.0, nets-length s, ap length c.refs.ensures.refs, c.refs.ensures.many, ap length c.requires.base.wired.nets)

pub returns-then-place-rails-clause-live : goal.returns-then-place-rails-clause-live
returns-then-place-rails-clause-live g c =
    let s : StageData = c.args.stage.now in
    let old : SpaceData = g.P.Space.meaning c.args.space.now in
    let none : Ref = record { place = 0 } in
    let bits = ap length (c.items.ensures ∙ ap (λ (t : StageData). t.inputs) c.stage.view_is) in
    let other = low-place s c.args.base.now.wiring.order c.requires.base.wired.order c.facts.ensures c.args.place (omega (arith, bits, c.if-place-rails.true)) c.other_rail.result c.other_rail.ensures in
    let value = value-at old s Base c.args.base.now c.requires.base c.other_rail.result none (omega (arith, other.0, nets-length s)) in
    subst (IsLive old) (ap (λ (refs : List Ref). get_or refs c.other_rail.result none) (sym c.refs.ensures.refs)) value.0

pub returns-then-place-rails-clause-table : goal.returns-then-place-rails-clause-table
returns-then-place-rails-clause-table g c =
    let s : StageData = c.args.stage.now in
    let old : SpaceData = g.P.Space.meaning c.args.space.now in
    let none : Ref = record { place = 0 } in
    let bits = ap length (c.items.ensures ∙ ap (λ (t : StageData). t.inputs) c.stage.view_is) in
    let other = low-place s c.args.base.now.wiring.order c.requires.base.wired.order c.facts.ensures c.args.place (omega (arith, bits, c.if-place-rails.true)) c.other_rail.result c.other_rail.ensures in
    let value = value-at old s Base c.args.base.now c.requires.base c.other_rail.result none (omega (arith, other.0, nets-length s)) in
    ap (λ (refs : List Ref). old.table (get_or refs c.other_rail.result none)) c.refs.ensures.refs ∙ value.1 ∙ other.1

pub offset_bounds-items-cell : goal.offset_bounds-items-cell
offset_bounds-items-cell g c =
    let within = subst (λ (xs : List StageCell). c.args.place - 2 * length c.items.result.now < length xs) (sym (c.items-2.ensures ∙ ap (λ (t : StageData). t.cells) c.stage.view_is)) (behind-inputs c.args.stage.now c.args.place c.items.result.now (c.items.ensures ∙ ap (λ (t : StageData). t.inputs) c.stage.view_is) c.requires.place c.if-place-rails.false).0 in
    search rules

pub bounds-items-cell : goal.bounds-items-cell
bounds-items-cell g c = subst (λ (xs : List StageCell). c.args.place - 2 * length c.items.result.now < length xs) (sym (c.items-2.ensures ∙ ap (λ (t : StageData). t.cells) c.stage.view_is)) (behind-inputs c.args.stage.now c.args.place c.items.result.now (c.items.ensures ∙ ap (λ (t : StageData). t.inputs) c.stage.view_is) c.requires.place c.if-place-rails.false).0

pub bounds-items-cell-else-place-rails : goal.bounds-items-cell-else-place-rails
bounds-items-cell-else-place-rails g c = subst (λ (xs : List StageCell). c.args.place - 2 * length c.items.result.now < length xs) (sym (c.items-2.ensures ∙ ap (λ (t : StageData). t.cells) c.stage.view_is)) (behind-inputs c.args.stage.now c.args.place c.items.result.now (c.items.ensures ∙ ap (λ (t : StageData). t.inputs) c.stage.view_is) c.requires.place c.if-place-rails.false).0

pub pins-requires : goal.pins-requires
pins-requires g c =
    let within = (behind-inputs c.args.stage.now c.args.place c.items.result.now (c.items.ensures ∙ ap (λ (t : StageData). t.inputs) c.stage.view_is) c.requires.place c.if-place-rails.false).0 in
    let many = ap (λ (w : WiringData). length w.pins) c.wiring.ensures ∙ ap length c.requires.base.wired.pins ∙ length-map c.args.stage.now.cells (pin_places c.args.base.now.wiring.nets) in
    omega (arith, within, many)

pub dual_ins-ins-requires-clause-arity : goal.dual_ins-ins-requires-clause-arity
dual_ins-ins-requires-clause-arity g c = (pins-at c.args.stage.now c.facts.ensures c.args.base.now.wiring c.requires.base.wired c.args.place (c.args.place - 2 * length c.items.result.now) (behind-inputs c.args.stage.now c.args.place c.items.result.now (c.items.ensures ∙ ap (λ (t : StageData). t.inputs) c.stage.view_is) c.requires.place c.if-place-rails.false) c.items-2.result.now (c.items-2.ensures ∙ ap (λ (t : StageData). t.cells) c.stage.view_is) c.index-items-cell.result (g.P.Space.meaning c.args.space.now) (values-width (g.P.Space.meaning c.args.space.now) c.args.stage.now Base c.args.base.now c.facts-2.ensures c.facts.ensures c.requires.base) c.args.lows.now c.requires.lows c.wiring.result.now c.wiring.ensures c.pins.result.now c.pins.ensures.pins).arity

pub dual_ins-ins-requires-clause-within : goal.dual_ins-ins-requires-clause-within
dual_ins-ins-requires-clause-within g c = (pins-at c.args.stage.now c.facts.ensures c.args.base.now.wiring c.requires.base.wired c.args.place (c.args.place - 2 * length c.items.result.now) (behind-inputs c.args.stage.now c.args.place c.items.result.now (c.items.ensures ∙ ap (λ (t : StageData). t.inputs) c.stage.view_is) c.requires.place c.if-place-rails.false) c.items-2.result.now (c.items-2.ensures ∙ ap (λ (t : StageData). t.cells) c.stage.view_is) c.index-items-cell.result (g.P.Space.meaning c.args.space.now) (values-width (g.P.Space.meaning c.args.space.now) c.args.stage.now Base c.args.base.now c.facts-2.ensures c.facts.ensures c.requires.base) c.args.lows.now c.requires.lows c.wiring.result.now c.wiring.ensures c.pins.result.now c.pins.ensures.pins).within

pub apply-requires-clause-arity : goal.apply-requires-clause-arity
apply-requires-clause-arity g c =
    let kind : Kind = (get_or c.items-2.result.now (c.args.place - 2 * length c.items.result.now) c.index-items-cell.result).kind in
    let pins = pins-at c.args.stage.now c.facts.ensures c.args.base.now.wiring c.requires.base.wired c.args.place (c.args.place - 2 * length c.items.result.now) (behind-inputs c.args.stage.now c.args.place c.items.result.now (c.items.ensures ∙ ap (λ (t : StageData). t.inputs) c.stage.view_is) c.requires.place c.if-place-rails.false) c.items-2.result.now (c.items-2.ensures ∙ ap (λ (t : StageData). t.cells) c.stage.view_is) c.index-items-cell.result (g.P.Space.meaning c.args.space.now) (values-width (g.P.Space.meaning c.args.space.now) c.args.stage.now Base c.args.base.now c.facts-2.ensures c.facts.ensures c.requires.base) c.args.lows.now c.requires.lows c.wiring.result.now c.wiring.ensures c.pins.result.now c.pins.ensures.pins in
    ap length (c.as_slice.ensures.value ∙ c.dual_ins-ins.ensures) ∙ dual_pins-length kind (map (ref_at c.args.lows.now) c.pins.result.now) ∙ length-map c.pins.result.now (ref_at c.args.lows.now)
    ∙ pins.arity ∙ sym (dual-arity kind) ∙ ap arity_of (sym c.dual.ensures)

pub apply-requires-clause-live : goal.apply-requires-clause-live
apply-requires-clause-live g c = subst (All (IsLive (g.P.Space.meaning c.args.space.now))) (sym (c.as_slice.ensures.value ∙ c.dual_ins-ins.ensures)) (pins-at c.args.stage.now c.facts.ensures c.args.base.now.wiring c.requires.base.wired c.args.place (c.args.place - 2 * length c.items.result.now) (behind-inputs c.args.stage.now c.args.place c.items.result.now (c.items.ensures ∙ ap (λ (t : StageData). t.inputs) c.stage.view_is) c.requires.place c.if-place-rails.false) c.items-2.result.now (c.items-2.ensures ∙ ap (λ (t : StageData). t.cells) c.stage.view_is) c.index-items-cell.result (g.P.Space.meaning c.args.space.now) (values-width (g.P.Space.meaning c.args.space.now) c.args.stage.now Base c.args.base.now c.facts-2.ensures c.facts.ensures c.requires.base) c.args.lows.now c.requires.lows c.wiring.result.now c.wiring.ensures c.pins.result.now c.pins.ensures.pins).live

pub returns-clause-table : goal.returns-clause-table
returns-clause-table g c =
    let s : StageData = c.args.stage.now in
    let old : SpaceData = g.P.Space.meaning c.args.space.now in
    let new : SpaceData = g.P.Space.meaning c.apply.new.self in
    let pins = pins-at c.args.stage.now c.facts.ensures c.args.base.now.wiring c.requires.base.wired c.args.place (c.args.place - 2 * length c.items.result.now) (behind-inputs c.args.stage.now c.args.place c.items.result.now (c.items.ensures ∙ ap (λ (t : StageData). t.inputs) c.stage.view_is) c.requires.place c.if-place-rails.false) c.items-2.result.now (c.items-2.ensures ∙ ap (λ (t : StageData). t.cells) c.stage.view_is) c.index-items-cell.result (g.P.Space.meaning c.args.space.now) (values-width (g.P.Space.meaning c.args.space.now) c.args.stage.now Base c.args.base.now c.facts-2.ensures c.facts.ensures c.requires.base) c.args.lows.now c.requires.lows c.wiring.result.now c.wiring.ensures c.pins.result.now c.pins.ensures.pins in
    let made = (λ k. gate_table old.width (c.dual.ensures k) (map old.table ((c.as_slice.ensures.value ∙ c.dual_ins-ins.ensures) k))) ∙ pins.made in
    IfOk-weaker c.apply.result _ (λ low. new.table low ≡ low_table_by c.args.base.now.wiring.order s (net_at s c.args.place)) (λ low is. is.table ∙ made) c.apply.ensures.made
