use Rattle.ncl_stage.proofs.Terms.{All-nil, Base, HaveTables, IsLive, List, SpaceData, StageData, [], ap, arith, keeps_all, keeps_along, length, length-map, low_table_by, low_tables_by, net_at, nets_of, refl, subst, sym, take, take_all, ℕ, ◌+◌, ◌<◌, ◌≤◌}
use Rattle.ncl_stage.proofs.ChangedLaws.{values-kept}
use Rattle.ncl_stage.proofs.ObservingLaws.{have-next, low-table_at}
use Rattle.ncl_stage.proofs.observing.low_refs.Goals as goal

pub low_ref-requires-clause-base : goal.low_ref-requires-clause-base
low_ref-requires-clause-base g c = values-kept (g.P.Space.meaning c.args.space.now) (g.P.Space.meaning c.loop-place.space) c.args.stage.now Base c.args.base.now c.loop-place.invariant.kept c.requires

pub loop-place-preserved : goal.loop-place-preserved
loop-place-preserved g c =
    let s : StageData = c.args.stage.now in
    let order : List ℕ = c.args.base.now.wiring.order in
    let tables = low_tables_by order s in
    let now : SpaceData = g.P.Space.meaning c.loop-place.space in
    let new : SpaceData = g.P.Space.meaning c.low_ref.new.space in
    let place = c.loop-place.place in
    let within : place < length (nets_of s.inputs s.cells) = omega (arith, c.loop-place-test.true, ap length c.refs-count.ensures.refs, c.refs-count.ensures.many, ap length c.requires.wired.nets) in
    let all : place < length tables = omega (arith, within, length-map (nets_of s.inputs s.cells) (low_table_by order s)) in
    record {
      kept = keeps_along (g.P.Space.meaning c.args.space.now) now new c.loop-place.invariant.kept c.in_ok-low.ensures.kept;
      have = subst (λ items. HaveTables new items (take (place + 1) tables)) (sym c.in_ok-push.ensures.items)
          (have-next now new tables place c.loop-place.lows.items c.in_ok-low.low (low_table_by order s (net_at s place)) all (low-table_at s order c.requires.wired.order place within) c.loop-place.invariant.have c.in_ok-low.ensures.kept c.in_ok-low.ensures.live c.in_ok-low.ensures.table);
    }

pub loop-place-init : goal.loop-place-init
loop-place-init g c = record {
  kept = keeps_all (g.P.Space.meaning c.args.space.now) c.facts.ensures;
  have = subst (λ refs. HaveTables (g.P.Space.meaning c.args.space.now) refs []) (sym c.in_ok-lows.ensures.items) (record { live = All-nil (IsLive (g.P.Space.meaning c.args.space.now)); tables = refl });
}

pub low_ref-requires-clause-place : goal.low_ref-requires-clause-place
low_ref-requires-clause-place g c = omega (arith, c.loop-place-test.true, ap length c.refs-count.ensures.refs, c.refs-count.ensures.many, ap length c.requires.wired.nets)

pub low_ref-requires-clause-lows : goal.low_ref-requires-clause-lows
low_ref-requires-clause-lows g c =
    subst (λ refs. HaveTables (g.P.Space.meaning c.loop-place.space) refs (take c.loop-place.place (low_tables_by c.args.base.now.wiring.order c.args.stage.now))) (sym c.as_slice.ensures.value) c.loop-place.invariant.have

pub returns-in_err-lows-clause-kept : goal.returns-in_err-lows-clause-kept
returns-in_err-lows-clause-kept g c = keeps_all (g.P.Space.meaning c.args.space.now) c.facts.ensures

pub returns-in_err-low-clause-kept : goal.returns-in_err-low-clause-kept
returns-in_err-low-clause-kept g c =
    keeps_along (g.P.Space.meaning c.args.space.now) (g.P.Space.meaning c.loop-place.space) (g.P.Space.meaning c.low_ref.new.space) c.loop-place.invariant.kept c.in_err-low.ensures.kept

pub returns-in_err-push-clause-kept : goal.returns-in_err-push-clause-kept
returns-in_err-push-clause-kept g c =
    keeps_along (g.P.Space.meaning c.args.space.now) (g.P.Space.meaning c.loop-place.space) (g.P.Space.meaning c.low_ref.new.space) c.loop-place.invariant.kept c.in_ok-low.ensures.kept

pub returns-clause-made : goal.returns-clause-made
returns-clause-made g c =
    let s : StageData = c.args.stage.now in
    let tables = low_tables_by c.args.base.now.wiring.order s in
    let many = length-map (nets_of s.inputs s.cells) (low_table_by c.args.base.now.wiring.order s) in
    let all : length tables ≤ c.loop-place.place = omega (arith, c.loop-place-test.false, ap length c.refs-count.ensures.refs, c.refs-count.ensures.many, ap length c.requires.wired.nets, many) in
    subst (HaveTables (g.P.Space.meaning c.loop-place.space) c.loop-place.lows.items) (take_all c.loop-place.place tables all) c.loop-place.invariant.have
