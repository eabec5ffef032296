use Rattle.ncl_stage.proofs.Terms.{AreValues, Base, IsAlwaysObserved, IsLeft, IsLive, IsSpace, IsStage, Keeps, List, Ref, SpaceData, StageData, ValuesData, ap, constant_table, false, from_test, get_or, have-kept, keeps_all, keeps_along, low_tables_by, net_at, subst, sym, ℕ, ◌∙◌, ◌≡◌}
use Rattle.ncl_stage.proofs.ChangedLaws.{value-at, values-kept, values-width}
use Rattle.ncl_stage.proofs.ObservingLaws.{left-first, none-left}
use Rattle.ncl_stage.proofs.observing.is_observed.Goals as goal

pub loop-reader-init : goal.loop-reader-init
loop-reader-init g c =
    let s : StageData = c.args.stage.now in
    let order : List ℕ = c.args.base.now.wiring.order in
    let old : SpaceData = g.P.Space.meaning c.args.space.now in
    let none : Ref = record { place = 0 } in
    let own = value-at old s Base c.args.base.now c.requires.base c.args.place none c.requires.place in
    let same = ap (λ (refs : List Ref). get_or refs c.args.place none) c.refs.ensures.refs in
    record {
      kept = keeps_all old c.facts-2.ensures;
      live = subst (IsLive old) (sym same) own.0;
      left = subst (IsLeft order s (net_at s c.args.place)) (sym (ap old.table same ∙ own.1)) (left-first s order c.requires.base.wired.order (net_at s c.args.place));
    }

-- where what is left is the constant 0, the net is observed
observed : (old now : SpaceData) → IsSpace old → Keeps old now → (s : StageData) → IsStage s → (base : ValuesData) → AreValues old s Base base → (net : ℕ) (never left : Ref) → IsLive old never → old.table never ≡ constant_table old.width false → IsLeft base.wiring.order s net (now.table left) → now.table left ≡ now.table never → IsAlwaysObserved s net
observed old now space k s is base are net never left live zero left_is same =
    none-left s base.wiring.order are.wired.order net (now.table left) left_is (same ∙ k.tables never live ∙ zero ∙ ap (λ n. constant_table n false) (values-width old s Base base space is are))

pub returns-then-same-clause-observed : goal.returns-then-same-clause-observed
returns-then-same-clause-observed g c = λ e.
    observed (g.P.Space.meaning c.args.space.now) (g.P.Space.meaning c.loop-reader.space) c.facts-2.ensures c.loop-reader.invariant.kept c.args.stage.now c.facts.ensures c.args.base.now c.requires.base (net_at c.args.stage.now c.args.place) c.constant-never.result c.loop-reader.left c.constant-never.ensures.live c.constant-never.ensures.table
    c.loop-reader.invariant.left (from_test c.same.result c.same.ensures c.if-same.true)

pub left_by-requires-clause-base : goal.left_by-requires-clause-base
left_by-requires-clause-base g c = values-kept (g.P.Space.meaning c.args.space.now) (g.P.Space.meaning c.loop-reader.space) c.args.stage.now Base c.args.base.now c.loop-reader.invariant.kept c.requires.base

pub left_by-requires-clause-lows : goal.left_by-requires-clause-lows
left_by-requires-clause-lows g c = have-kept (g.P.Space.meaning c.args.space.now) (g.P.Space.meaning c.loop-reader.space) c.args.lows.now (low_tables_by c.args.base.now.wiring.order c.args.stage.now) c.loop-reader.invariant.kept c.requires.lows

pub returns-clause-observed : goal.returns-clause-observed
returns-clause-observed g c = λ e.
    observed (g.P.Space.meaning c.args.space.now) (g.P.Space.meaning c.loop-reader.space) c.facts-2.ensures c.loop-reader.invariant.kept c.args.stage.now c.facts.ensures c.args.base.now c.requires.base (net_at c.args.stage.now c.args.place) c.constant-never.result c.loop-reader.left c.constant-never.ensures.live c.constant-never.ensures.table
    c.loop-reader.invariant.left (from_test c.same-2.result c.same-2.ensures e)

pub same-requires-clause-y : goal.same-requires-clause-y
same-requires-clause-y g c = c.loop-reader.invariant.kept.live c.constant-never.result c.constant-never.ensures.live

pub same-requires-2-clause-y : goal.same-requires-2-clause-y
same-requires-2-clause-y g c = c.loop-reader.invariant.kept.live c.constant-never.result c.constant-never.ensures.live

pub returns-in_err-left-clause-kept : goal.returns-in_err-left-clause-kept
returns-in_err-left-clause-kept g c =
    keeps_along (g.P.Space.meaning c.args.space.now) (g.P.Space.meaning c.loop-reader.space) (g.P.Space.meaning c.left_by.new.space) c.loop-reader.invariant.kept c.in_err-left.ensures.kept

pub loop-reader-preserved : goal.loop-reader-preserved
loop-reader-preserved g c = record {
  kept = keeps_along (g.P.Space.meaning c.args.space.now) (g.P.Space.meaning c.loop-reader.space) (g.P.Space.meaning c.left_by.new.space) c.loop-reader.invariant.kept c.in_ok-left.ensures.kept;
  live = c.in_ok-left.ensures.live;
  left = c.in_ok-left.ensures.left;
}
