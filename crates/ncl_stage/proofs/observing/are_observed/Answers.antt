use Rattle.ncl_stage.proofs.Terms.{All, Base, Contains, Contains-from_Member, HaveTables, IsAlwaysObserved, IsObserved, IsShown, SpaceData, StageData, WiringData, ap, arith, below_more, false, get_or, get_or_default, have-kept, have-length, inl, keeps_along, length, length-map, low_table_by, low_tables_by, net_at, nets_of, subst, sym, true, val, val-within, ℕ, ◌<◌, ◌∙◌, ◌≡◌}
use Rattle.ncl_stage.specs.BitOrder.{place_in}
use Rattle.ncl_stage.proofs.ChangedLaws.{values-kept}
use Rattle.ncl_stage.proofs.ObservingLaws.{shown-net}
use Rattle.ncl_stage.proofs.OutputLaws.{outputs-within}
use Rattle.ncl_stage.proofs.PlaceLaws.{place_in-at}
use Rattle.ncl_stage.proofs.observing.are_observed.Goals as goal

pub output_marks-requires : goal.output_marks-requires
output_marks-requires g c =
    let s : StageData = c.args.stage.now in
    let order = c.args.base.now.wiring.order in
    let lows = have-length (g.P.Space.meaning c.low_refs.new.space) c.in_ok-lows.lows.items (low_tables_by order s) c.in_ok-lows.ensures.made in
    let nets = length-map (nets_of s.inputs s.cells) (low_table_by order s) in
    let many : c.len.result ≡ length (nets_of s.inputs s.cells) = omega (arith, c.len.ensures, lows, nets) in
    subst (λ (w : WiringData). All (λ pair. (pair.0 < c.len.result) × (pair.1 < c.len.result)) w.outputs) (sym c.wiring.ensures) (outputs-within s c.facts.ensures c.args.base.now.wiring c.requires.wired c.len.result many)

pub is_observed-requires-clause-base : goal.is_observed-requires-clause-base
is_observed-requires-clause-base g c = values-kept (g.P.Space.meaning c.args.space.now) (g.P.Space.meaning c.loop-place.space) c.args.stage.now Base c.args.base.now c.loop-place.invariant.kept c.requires

pub loop-place-preserved-then-index : goal.loop-place-preserved-then-index
loop-place-preserved-then-index g c =
    let s : StageData = c.args.stage.now in
    let w : WiringData = c.args.base.now.wiring in
    let place = c.loop-place.place in
    let within : place < length c.in_ok-shown.shown.items = omega (arith, c.loop-place-test.true, c.len-place-end.ensures, c.len.ensures, c.in_ok-shown.ensures.many) in
    let marked : get_or c.in_ok-shown.shown.items place false ≡ true = get_or_default c.in_ok-shown.shown.items place false c.index.result.now within ∙ sym c.index.ensures ∙ c.if-index.true in
    let own : IsShown w.outputs place = subst (λ (x : WiringData). IsShown x.outputs place) c.wiring.ensures (c.in_ok-shown.ensures.shown place marked) in
    let seen : IsAlwaysObserved s (net_at s place) = λ word same high. inl (shown-net s c.facts.ensures w c.requires.wired place own) in
    record {
      kept = c.loop-place.invariant.kept;
      lows = c.loop-place.invariant.lows;
      seen = below_more (λ k. IsAlwaysObserved s (net_at s k)) place c.loop-place.invariant.seen seen;
    }

pub loop-place-preserved : goal.loop-place-preserved
loop-place-preserved g c =
    let s : StageData = c.args.stage.now in
    let now : SpaceData = g.P.Space.meaning c.loop-place.space in
    let new : SpaceData = g.P.Space.meaning c.is_observed.new.space in
    let seen : IsAlwaysObserved s (net_at s c.loop-place.place) = c.in_ok-is_observed.ensures.observed c.if-not-branch.false in
    record {
      kept = keeps_along (g.P.Space.meaning c.args.space.now) now new c.loop-place.invariant.kept c.in_ok-is_observed.ensures.kept;
      lows = have-kept now new c.in_ok-lows.lows.items (low_tables_by c.args.base.now.wiring.order s) c.in_ok-is_observed.ensures.kept c.loop-place.invariant.lows;
      seen = below_more (λ k. IsAlwaysObserved s (net_at s k)) c.loop-place.place c.loop-place.invariant.seen seen;
    }

pub returns-clause-observed : goal.returns-clause-observed
returns-clause-observed g c = λ e word same net high.
    let s : StageData = c.args.stage.now in
    let order = c.args.base.now.wiring.order in
    let lows = have-length (g.P.Space.meaning c.low_refs.new.space) c.in_ok-lows.lows.items (low_tables_by order s) c.in_ok-lows.ensures.made in
    let nets = length-map (nets_of s.inputs s.cells) (low_table_by order s) in
    let known : Contains (nets_of s.inputs s.cells) net = Contains-from_Member net (val-within s word Base net high) in
    let at_net = place_in-at (nets_of s.inputs s.cells) net known in
    let place : ℕ = place_in (nets_of s.inputs s.cells) net in
    let before : place < c.loop-place.place = omega (arith, at_net.0, c.loop-place-test.false, c.len-place-end.ensures, lows, nets) in
    subst (IsObserved s (val s word Base)) (at_net.1 0) (c.loop-place.invariant.seen place before word same (ap (val s word Base) (at_net.1 0) ∙ high))

pub index-requires : goal.index-requires
index-requires g c = omega (arith, c.loop-place-test.true, c.len-place-end.ensures, c.len.ensures, c.in_ok-shown.ensures.many)

pub is_observed-requires-clause-lows : goal.is_observed-requires-clause-lows
is_observed-requires-clause-lows g c = subst (λ refs. HaveTables (g.P.Space.meaning c.loop-place.space) refs (low_tables_by c.args.base.now.wiring.order c.args.stage.now)) (sym c.as_slice.ensures.value) c.loop-place.invariant.lows

pub is_observed-requires-clause-place : goal.is_observed-requires-clause-place
is_observed-requires-clause-place g c =
    let s : StageData = c.args.stage.now in
    let order = c.args.base.now.wiring.order in
    let lows = have-length (g.P.Space.meaning c.low_refs.new.space) c.in_ok-lows.lows.items (low_tables_by order s) c.in_ok-lows.ensures.made in
    omega (arith, c.loop-place-test.true, c.len-place-end.ensures, lows, length-map (nets_of s.inputs s.cells) (low_table_by order s))

pub returns-in_err-is_observed-clause-kept : goal.returns-in_err-is_observed-clause-kept
returns-in_err-is_observed-clause-kept g c =
    keeps_along (g.P.Space.meaning c.args.space.now) (g.P.Space.meaning c.loop-place.space) (g.P.Space.meaning c.is_observed.new.space) c.loop-place.invariant.kept c.in_err-is_observed.ensures.kept

pub returns-then-not-branch-clause-kept : goal.returns-then-not-branch-clause-kept
returns-then-not-branch-clause-kept g c =
    keeps_along (g.P.Space.meaning c.args.space.now) (g.P.Space.meaning c.loop-place.space) (g.P.Space.meaning c.is_observed.new.space) c.loop-place.invariant.kept c.in_ok-is_observed.ensures.kept
