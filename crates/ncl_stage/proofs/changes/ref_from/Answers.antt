use Rattle.ncl_stage.proofs.Terms.{Base, HaveTables, IfOk, IsLive, IsUnreached, Makes, MarksChanges, Member-get_or, Ref, SpaceData, StageData, WiringData, [], ap, constant_table, false, fits, get_or, keeps_all, kept_low, makes-live, net_at, net_table_by, net_tables_by, nets_of, subst, sym, take, true, ◌∙◌, ◌∷◌, ◌≡◌}
use Rattle.ncl_stage.proofs.ChangedLaws.{value-at, values-width}
use Rattle.ncl_stage.proofs.NetLaws.{low-net}
use Rattle.ncl_stage.proofs.changes.ref_from.Goals as goal

pub net_ref-requires-clause-refs : goal.net_ref-requires-clause-refs
net_ref-requires-clause-refs g c =
    subst (λ (w : WiringData). HaveTables (g.P.Space.meaning c.args.space.now) c.as_slice-refs.result.now (take c.args.place (net_tables_by w.order c.args.stage.now c.args.variant))) (sym c.wiring-wiring.ensures)
    (subst (λ refs. HaveTables (g.P.Space.meaning c.args.space.now) refs (take c.args.place (net_tables_by c.args.base.now.wiring.order c.args.stage.now c.args.variant))) (sym c.as_slice-refs.ensures.value) c.requires.refs)

pub returns-then-is_reached-clause-made : goal.returns-then-is_reached-clause-made
returns-then-is_reached-clause-made g c =
    let s : StageData = c.args.stage.now in
    subst (λ (w : WiringData). IfOk c.net_ref.result (λ r. Makes (g.P.Space.meaning c.args.space.now) (g.P.Space.meaning c.net_ref.new.space) r (net_table_by w.order s c.args.variant (net_at s c.args.place)))) c.wiring-wiring.ensures c.net_ref.ensures.made

pub returns-then-is_reached-clause-full : goal.returns-then-is_reached-clause-full
returns-then-is_reached-clause-full g c = λ e.
    let s : StageData = c.args.stage.now in
    subst (λ (w : WiringData). fits (g.P.Space.meaning c.args.space.now) (net_table_by w.order s c.args.variant (net_at s c.args.place) ∷ []) ≡ false) c.wiring-wiring.ensures (c.net_ref.ensures.full e)

pub returns-then-is_kept_low-clause-made : goal.returns-then-is_kept_low-clause-made
returns-then-is_kept_low-clause-made g c =
    let s : StageData = c.args.stage.now in
    let net : c.net.result.0 ≡ net_at s c.args.place = c.net.ensures ∙ ap (λ nets. get_or nets c.args.place 0) (ap (λ (w : WiringData). w.nets) c.wiring-wiring.ensures ∙ c.requires.base.wired.nets) in
    let low : kept_low s c.args.variant (net_at s c.args.place) ≡ true = ap (kept_low s c.args.variant) (sym net) ∙ sym c.is_kept_low.ensures ∙ c.if-is_kept_low.true in
    makes-live (g.P.Space.meaning c.args.space.now) c.constant.result (net_table_by c.args.base.now.wiring.order s c.args.variant (net_at s c.args.place)) c.facts-2.ensures c.constant.ensures.live
    (c.constant.ensures.table ∙ ap (λ n. constant_table n false) (values-width (g.P.Space.meaning c.args.space.now) c.args.stage.now Base c.args.base.now c.facts-2.ensures c.facts.ensures c.requires.base)
    ∙ sym (low-net s c.args.base.now.wiring.order c.requires.base.wired.order c.facts.ensures c.args.variant (net_at s c.args.place) (Member-get_or (nets_of s.inputs s.cells) c.args.place 0 c.requires.place) low))

pub returns-clause-made : goal.returns-clause-made
returns-clause-made g c =
    let s : StageData = c.args.stage.now in
    let old : SpaceData = g.P.Space.meaning c.args.space.now in
    let none : Ref = record { place = 0 } in
    let net : c.net.result.0 ≡ net_at s c.args.place = c.net.ensures ∙ ap (λ nets. get_or nets c.args.place 0) (ap (λ (w : WiringData). w.nets) c.wiring-wiring.ensures ∙ c.requires.base.wired.nets) in
    let free : kept_low s c.args.variant (net_at s c.args.place) ≡ false = ap (kept_low s c.args.variant) (sym net) ∙ sym c.is_kept_low.ensures ∙ c.if-is_kept_low.false in
    let value = value-at old s Base c.args.base.now c.requires.base c.args.place none c.requires.place in
    let r : get_or c.refs.result.now c.args.place none ≡ get_or c.args.base.now.refs c.args.place none = ap (λ refs. get_or refs c.args.place none) c.refs.ensures.refs in
    let unreached = subst (λ (w : WiringData). MarksChanges w.order s c.args.variant c.as_slice-changed.result.now → IsUnreached w.order s c.args.variant (net_at s c.args.place)) c.wiring-wiring.ensures (c.is_reached.ensures c.if-is_reached.false c.args.variant) in
    makes-live old (get_or c.refs.result.now c.args.place none) (net_table_by c.args.base.now.wiring.order s c.args.variant (net_at s c.args.place)) c.facts-2.ensures (subst (IsLive old) (sym r) value.0)
    (ap old.table r ∙ value.1 ∙ sym (unreached (subst (MarksChanges c.args.base.now.wiring.order s c.args.variant) (sym c.as_slice-changed.ensures.value) c.requires.changed) free))

pub net_ref-requires-clause-width : goal.net_ref-requires-clause-width
net_ref-requires-clause-width g c = (values-width (g.P.Space.meaning c.args.space.now) c.args.stage.now Base c.args.base.now c.facts-2.ensures c.facts.ensures c.requires.base)

pub returns-then-is_kept_low-clause-kept : goal.returns-then-is_kept_low-clause-kept
returns-then-is_kept_low-clause-kept g c = keeps_all (g.P.Space.meaning c.args.space.now) c.facts-2.ensures

pub returns-clause-kept : goal.returns-clause-kept
returns-clause-kept g c = keeps_all (g.P.Space.meaning c.args.space.now) c.facts-2.ensures
