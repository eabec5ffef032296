use Rattle.ncl_stage.proofs.Terms.{Bool, Err, List, MakesAll, Making, SpaceData, StageData, Variant, [], ap, handed_on, keeps_along, length, length-map, making-next, making-none, net_at, net_table_by, net_tables_by, nets_of, subst, sym, take, take_all, too_much-next, ℕ, ◌+◌, ◌<◌, ◌∙◌, ◌≡◌, ◌≤◌}
use Rattle.ncl_stage.proofs.ChangedLaws.{table-at}
use Rattle.ncl_stage.proofs.nets.net_refs.Goals as goal

-- there is a table for each net
as_many : (s : StageData) (order : List ℕ) (variant : Variant) (nets : List ℕ) → nets ≡ nets_of s.inputs s.cells → length nets ≡ length (net_tables_by order s variant)
as_many s order variant nets are = ap length are ∙ sym (length-map (nets_of s.inputs s.cells) (net_table_by order s variant))

pub loop-place-init : goal.loop-place-init
loop-place-init g c =
    let old : SpaceData = g.P.Space.meaning c.args.space.now in
    subst (λ items. Making old old items []) (sym c.in_ok-refs.ensures.items) (making-none old c.facts-2.ensures)

pub net_ref-requires-clause-place : goal.net_ref-requires-clause-place
net_ref-requires-clause-place g c = subst (λ n. c.loop-place.place < n) (c.len-place-end.ensures ∙ ap length c.requires.wiring.nets) c.loop-place-test.true

pub returns-in_err-made-clause-full : goal.returns-in_err-made-clause-full
returns-in_err-made-clause-full g c = λ e.
    let s : StageData = c.args.stage.now in
    let order : List ℕ = c.args.wiring.now.order in
    let place = c.loop-place.place in
    let within : place < length c.args.wiring.now.nets = subst (λ n. place < n) c.len-place-end.ensures c.loop-place-test.true in
    too_much-next (g.P.Space.meaning c.args.space.now) (g.P.Space.meaning c.loop-place.space) (net_tables_by order s c.args.variant) place c.loop-place.refs.items (net_table_by order s c.args.variant (net_at s place))
    (subst (λ n. place < n) (as_many s order c.args.variant c.args.wiring.now.nets c.requires.wiring.nets) within)
    (table-at s order c.args.variant place (subst (λ nets. place < length nets) c.requires.wiring.nets within)) c.loop-place.invariant
    (c.in_err-made.ensures.full (ap Err (handed_on c.from_residual-in_err-made.result c.in_err-made.field-0.0 c.from_residual-in_err-made.ensures.1 e)))

pub loop-place-preserved : goal.loop-place-preserved
loop-place-preserved g c =
    let s : StageData = c.args.stage.now in
    let order : List ℕ = c.args.wiring.now.order in
    let tables : List (List Bool) = net_tables_by order s c.args.variant in
    let old : SpaceData = g.P.Space.meaning c.args.space.now in
    let new : SpaceData = g.P.Space.meaning c.net_ref.new.space in
    let place = c.loop-place.place in
    let within : place < length c.args.wiring.now.nets = subst (λ n. place < n) c.len-place-end.ensures c.loop-place-test.true in
    subst (λ items. Making old new items (take (place + 1) tables)) (sym c.in_ok-push.ensures.items)
    (making-next old (g.P.Space.meaning c.loop-place.space) new tables place c.loop-place.refs.items c.in_ok-made.made (net_table_by order s c.args.variant (net_at s place))
    (subst (λ n. place < n) (as_many s order c.args.variant c.args.wiring.now.nets c.requires.wiring.nets) within)
    (table-at s order c.args.variant place (subst (λ nets. place < length nets) c.requires.wiring.nets within))
    c.loop-place.invariant c.in_ok-made.ensures.kept c.in_ok-made.ensures.made)

pub returns-clause-made : goal.returns-clause-made
returns-clause-made g c =
    let tables : List (List Bool) = net_tables_by c.args.wiring.now.order c.args.stage.now c.args.variant in
    let past : length tables ≤ c.loop-place.place = subst (λ n. n ≤ c.loop-place.place) (c.len-place-end.ensures ∙ as_many c.args.stage.now c.args.wiring.now.order c.args.variant c.args.wiring.now.nets c.requires.wiring.nets) c.loop-place-test.false in
    subst (MakesAll (g.P.Space.meaning c.args.space.now) (g.P.Space.meaning c.loop-place.space) c.loop-place.refs.items) (take_all c.loop-place.place tables past) c.loop-place.invariant.all

pub net_ref-requires-clause-width : goal.net_ref-requires-clause-width
net_ref-requires-clause-width g c = c.loop-place.invariant.kept.width ∙ c.requires.width

pub returns-in_err-made-clause-kept : goal.returns-in_err-made-clause-kept
returns-in_err-made-clause-kept g c =
    keeps_along (g.P.Space.meaning c.args.space.now) (g.P.Space.meaning c.loop-place.space) (g.P.Space.meaning c.net_ref.new.space) c.loop-place.invariant.kept c.in_err-made.ensures.kept

pub returns-in_err-push-clause-kept : goal.returns-in_err-push-clause-kept
returns-in_err-push-clause-kept g c =
    keeps_along (g.P.Space.meaning c.args.space.now) (g.P.Space.meaning c.loop-place.space) (g.P.Space.meaning c.net_ref.new.space) c.loop-place.invariant.kept c.in_ok-made.ensures.kept
