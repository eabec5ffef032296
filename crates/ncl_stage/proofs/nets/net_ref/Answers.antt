use Rattle.ncl_stage.proofs.Terms.{All, HaveTables, IfOk, IsLive, IsOrderOf, IsStage, IsWiring, List, Makes, Member-get_or, NetId, Ref, SpaceData, StageCell, StageData, Variant, WiringData, [], ap, arith, arity_of, constant_table, false, fits, gate_table, get_or, kept_low, length, length-map, makes-live, map, nat_eq, net_at, net_table_by, net_tables_by, nets_of, pin_places, rail_at, rail_table, ref_at, rules, subst, sym, take, ℕ, ◌%◌, ◌*◌, ◌+◌, ◌-◌, ◌/◌, ◌<◌, ◌∙◌, ◌∷◌, ◌≡◌}
use Rattle.ncl_stage.specs.BitOrder.{place_in}
use Rattle.ncl_stage.proofs.ChangedLaws.{net_at-cell, net_at-place, tables-before, behind-inputs}
use Rattle.ncl_stage.proofs.NetLaws.{Shows, low-net, rail-net, cell-net, cell-refs, pins-of, out_at, out_at-is}
use Rattle.ncl_stage.proofs.nets.net_ref.Goals as goal

-- the table of a rail that isn't kept low, by its place
rail-made : (s : StageData) (order : List ℕ) → IsOrderOf (length s.inputs) order → IsStage s → (variant : Variant) (place : ℕ) → place < 2 * length s.inputs → kept_low s variant (net_at s place) ≡ false → (width at : ℕ) → width ≡ length s.inputs → at ≡ place_in order (place / 2) → rail_table width at (nat_eq (place % 2) 1) ≡ net_table_by order s variant (net_at s place)
rail-made s order ordered is variant place lt free width at wide found =
    let net : net_at s place ≡ rail_at s (place / 2) (nat_eq (place % 2) 1) = net_at-place s place lt in
    (λ i. rail_table (wide i) (found i) (nat_eq (place % 2) 1))
    ∙ rail-net s order ordered is variant (place / 2) (nat_eq (place % 2) 1) (omega (arith, lt)) (ap (kept_low s variant) (sym net) ∙ free)
    ∙ ap (net_table_by order s variant) (sym net)

-- the table of a gate on the Refs of its pins
gate-made : (s : StageData) (order : List ℕ) → IsOrderOf (length s.inputs) order → IsStage s → (variant : Variant) (i : ℕ) (gate : StageCell) → i < length s.cells → gate ≡ get_or s.cells i gate → kept_low s variant (out_at s i) ≡ false → (old : SpaceData) → old.width ≡ length s.inputs → (ins : List Ref) → map old.table ins ≡ map (λ (net : NetId). net_table_by order s variant net.0) (get_or s.cells i gate).ins.items → gate_table old.width gate.kind (map old.table ins) ≡ net_table_by order s variant (out_at s i)
gate-made s order ordered is variant i gate lt at free old width ins tables =
    let cell : StageCell = get_or s.cells i gate in
    (λ k. gate_table (width k) (at k).kind (tables k))
    ∙ cell-net s order ordered is variant cell (Member-get_or s.cells i gate lt) (ap (kept_low s variant) (sym (out_at-is s i gate lt)) ∙ free)
    ∙ ap (net_table_by order s variant) (sym (out_at-is s i gate lt))

-- what the Refs of the pins of a gate have, of which the nets before it have been made
record Pins (space : SpaceData) (s : StageData) (order : List ℕ) (variant : Variant) (gate : StageCell) (place : ℕ) (refs : List Ref) (pins : List ℕ) : Type 0 where
  within : All (λ pin. pin < length refs) pins
  arity : length pins ≡ arity_of gate.kind
  live : All (IsLive space) (map (ref_at refs) pins)
  made : kept_low s variant (net_at s place) ≡ false → gate_table space.width gate.kind (map space.table (map (ref_at refs) pins)) ≡ net_table_by order s variant (net_at s place)

pins-at : (s : StageData) → IsStage s → (w : WiringData) → IsWiring s w → (variant : Variant) (place i : ℕ) → (i < length s.cells) × (place ≡ 2 * length s.inputs + i) → (cells : List StageCell) → cells ≡ s.cells → (gate : StageCell) → gate ≡ get_or cells i gate → (space : SpaceData) → space.width ≡ length s.inputs → (refs : List Ref) → HaveTables space refs (take place (net_tables_by w.order s variant)) → (pins : List ℕ) → pins ≡ get_or w.pins i []
    → Pins space s w.order variant gate place refs pins
pins-at s is w wired variant place i (lt, at) cells same gate read space width refs have pins are = record {
  within = shown.within;
  arity = ap length own ∙ length-map cell.ins.items (λ (net : NetId). place_in (nets_of s.inputs s.cells) net.0) ∙ is.arities i gate lt ∙ ap (λ (c : StageCell). arity_of c.kind) (sym one);
  live = shown.live;
  made = λ free. gate-made s w.order wired.order is variant i gate lt one (ap (kept_low s variant) (sym net) ∙ free) space width (map (ref_at refs) pins) shown.tables ∙ ap (net_table_by w.order s variant) (sym net);
}
  where
    one : gate ≡ get_or s.cells i gate
    one = read ∙ ap (λ xs. get_or xs i gate) same

    cell : StageCell
    cell = get_or s.cells i gate

    net : net_at s place ≡ out_at s i
    net = ap (net_at s) at ∙ net_at-cell s i

    own : pins ≡ pin_places (nets_of s.inputs s.cells) (get_or s.cells i gate)
    own = are ∙ pins-of s w wired i gate lt

    shown : Shows space (net_table_by w.order s variant) refs (get_or s.cells i gate).ins.items pins
    shown =
        subst (Shows space (net_table_by w.order s variant) refs (get_or s.cells i gate).ins.items) (sym own)
        (cell-refs space s is (net_table_by w.order s variant) i gate lt refs (subst (HaveTables space refs) (tables-before s w.order variant place i at) have))

pub returns-then-is_kept_low-clause-made : goal.returns-then-is_kept_low-clause-made
returns-then-is_kept_low-clause-made g c =
    let s : StageData = c.args.stage.now in
    let net : c.net.result.0 ≡ net_at s c.args.place = c.net.ensures ∙ ap (λ nets. get_or nets c.args.place 0) c.requires.wiring.nets in
    makes-live (g.P.Space.meaning c.args.space.now) c.constant.result (net_table_by c.args.wiring.now.order s c.args.variant (net_at s c.args.place)) c.facts-2.ensures c.constant.ensures.live
    (c.constant.ensures.table ∙ ap (λ n. constant_table n false) c.requires.width
    ∙ sym (low-net s c.args.wiring.now.order c.requires.wiring.order c.facts.ensures c.args.variant (net_at s c.args.place) (Member-get_or (nets_of s.inputs s.cells) c.args.place 0 c.requires.place) (ap (kept_low s c.args.variant) (sym net) ∙ sym c.is_kept_low.ensures ∙ c.if-is_kept_low.true)))

pub place_of-requires : goal.place_of-requires
place_of-requires g c =
    let bits : length c.items.result.now ≡ length c.args.stage.now.inputs = ap length (c.items.ensures ∙ ap (λ (t : StageData). t.inputs) c.stage.view_is) in
    subst (λ n. c.args.place / 2 < n) (sym (ap length c.order.ensures ∙ c.requires.wiring.order.many)) (omega (arith, bits, c.if-place-rails.true))

pub rail-requires : goal.rail-requires
rail-requires g c = subst (λ n. c.place_of.result < n) (ap length c.order.ensures ∙ c.requires.wiring.order.many ∙ sym c.requires.width) c.place_of.ensures.within

pub returns-then-place-rails : goal.returns-then-place-rails
returns-then-place-rails g c =
    let s : StageData = c.args.stage.now in
    let old : SpaceData = g.P.Space.meaning c.args.space.now in
    let bits : length c.items.result.now ≡ length s.inputs = ap length (c.items.ensures ∙ ap (λ (t : StageData). t.inputs) c.stage.view_is) in
    let net : c.net.result.0 ≡ net_at s c.args.place = c.net.ensures ∙ ap (λ nets. get_or nets c.args.place 0) c.requires.wiring.nets in
    let made = rail-made s c.args.wiring.now.order c.requires.wiring.order c.facts.ensures c.args.variant c.args.place (subst (λ n. c.args.place < 2 * n) bits c.if-place-rails.true)
    (ap (kept_low s c.args.variant) (sym net) ∙ sym c.is_kept_low.ensures ∙ c.if-is_kept_low.false)
    old.width c.place_of.result c.requires.width (c.place_of.ensures.place ∙ ap (λ order. place_in order (c.args.place / 2)) c.order.ensures) in
    record {
      made = subst (λ t. IfOk c.rail.result (λ r. Makes old (g.P.Space.meaning c.rail.new.self) r t)) made c.rail.ensures.made;
      kept = search rules;
      full = λ e. subst (λ t. fits old (t ∷ []) ≡ false) made (c.rail.ensures.full e);
    }

pub bounds-items-cell : goal.bounds-items-cell
bounds-items-cell g c = subst (λ (xs : List StageCell). c.args.place - 2 * length c.items.result.now < length xs) (sym (c.items-2.ensures ∙ ap (λ (t : StageData). t.cells) c.stage.view_is)) (behind-inputs c.args.stage.now c.args.place c.items.result.now (c.items.ensures ∙ ap (λ (t : StageData). t.inputs) c.stage.view_is) c.requires.place c.if-place-rails.false).0

pub offset_bounds-items-cell : goal.offset_bounds-items-cell
offset_bounds-items-cell g c =
    let within = subst (λ (xs : List StageCell). c.args.place - 2 * length c.items.result.now < length xs) (sym (c.items-2.ensures ∙ ap (λ (t : StageData). t.cells) c.stage.view_is)) (behind-inputs c.args.stage.now c.args.place c.items.result.now (c.items.ensures ∙ ap (λ (t : StageData). t.inputs) c.stage.view_is) c.requires.place c.if-place-rails.false).0 in
    search rules

pub pins-requires : goal.pins-requires
pins-requires g c = subst (λ n. c.args.place - 2 * length c.items.result.now < n) (sym (ap length c.requires.wiring.pins ∙ length-map c.args.stage.now.cells (pin_places c.args.wiring.now.nets))) (behind-inputs c.args.stage.now c.args.place c.items.result.now (c.items.ensures ∙ ap (λ (t : StageData). t.inputs) c.stage.view_is) c.requires.place c.if-place-rails.false).0

pub refs_at-ins-requires-clause-within : goal.refs_at-ins-requires-clause-within
refs_at-ins-requires-clause-within g c = (pins-at c.args.stage.now c.facts.ensures c.args.wiring.now c.requires.wiring c.args.variant c.args.place (c.args.place - 2 * length c.items.result.now) (behind-inputs c.args.stage.now c.args.place c.items.result.now (c.items.ensures ∙ ap (λ (t : StageData). t.inputs) c.stage.view_is) c.requires.place c.if-place-rails.false) c.items-2.result.now (c.items-2.ensures ∙ ap (λ (t : StageData). t.cells) c.stage.view_is) c.index-items-cell.result c.index-items-cell.is (g.P.Space.meaning c.args.space.now) c.requires.width c.args.refs.now c.requires.refs c.pins.result.now c.pins.ensures.pins).within

pub apply-requires-clause-arity : goal.apply-requires-clause-arity
apply-requires-clause-arity g c = ap length (c.as_slice.ensures.value ∙ c.refs_at-ins.ensures) ∙ length-map c.pins.result.now (ref_at c.args.refs.now) ∙ (pins-at c.args.stage.now c.facts.ensures c.args.wiring.now c.requires.wiring c.args.variant c.args.place (c.args.place - 2 * length c.items.result.now) (behind-inputs c.args.stage.now c.args.place c.items.result.now (c.items.ensures ∙ ap (λ (t : StageData). t.inputs) c.stage.view_is) c.requires.place c.if-place-rails.false) c.items-2.result.now (c.items-2.ensures ∙ ap (λ (t : StageData). t.cells) c.stage.view_is) c.index-items-cell.result c.index-items-cell.is (g.P.Space.meaning c.args.space.now) c.requires.width c.args.refs.now c.requires.refs c.pins.result.now c.pins.ensures.pins).arity

pub apply-requires-clause-live : goal.apply-requires-clause-live
apply-requires-clause-live g c = subst (All (IsLive (g.P.Space.meaning c.args.space.now))) (sym (c.as_slice.ensures.value ∙ c.refs_at-ins.ensures)) (pins-at c.args.stage.now c.facts.ensures c.args.wiring.now c.requires.wiring c.args.variant c.args.place (c.args.place - 2 * length c.items.result.now) (behind-inputs c.args.stage.now c.args.place c.items.result.now (c.items.ensures ∙ ap (λ (t : StageData). t.inputs) c.stage.view_is) c.requires.place c.if-place-rails.false) c.items-2.result.now (c.items-2.ensures ∙ ap (λ (t : StageData). t.cells) c.stage.view_is) c.index-items-cell.result c.index-items-cell.is (g.P.Space.meaning c.args.space.now) c.requires.width c.args.refs.now c.requires.refs c.pins.result.now c.pins.ensures.pins).live

pub returns : goal.returns
returns g c =
    let s : StageData = c.args.stage.now in
    let old : SpaceData = g.P.Space.meaning c.args.space.now in
    let net : c.net.result.0 ≡ net_at s c.args.place = c.net.ensures ∙ ap (λ nets. get_or nets c.args.place 0) c.requires.wiring.nets in
    let pins = pins-at c.args.stage.now c.facts.ensures c.args.wiring.now c.requires.wiring c.args.variant c.args.place (c.args.place - 2 * length c.items.result.now) (behind-inputs c.args.stage.now c.args.place c.items.result.now (c.items.ensures ∙ ap (λ (t : StageData). t.inputs) c.stage.view_is) c.requires.place c.if-place-rails.false) c.items-2.result.now (c.items-2.ensures ∙ ap (λ (t : StageData). t.cells) c.stage.view_is) c.index-items-cell.result c.index-items-cell.is (g.P.Space.meaning c.args.space.now) c.requires.width c.args.refs.now c.requires.refs c.pins.result.now c.pins.ensures.pins in
    let made = ap (λ ins. gate_table old.width c.index-items-cell.result.kind (map old.table ins)) (c.as_slice.ensures.value ∙ c.refs_at-ins.ensures) ∙ pins.made (ap (kept_low s c.args.variant) (sym net) ∙ sym c.is_kept_low.ensures ∙ c.if-is_kept_low.false) in
    record {
      made = subst (λ t. IfOk c.apply.result (λ r. Makes old (g.P.Space.meaning c.apply.new.self) r t)) made c.apply.ensures.made;
      kept = search rules;
      full = λ e. subst (λ t. fits old (t ∷ []) ≡ false) made (c.apply.ensures.full e);
    }
