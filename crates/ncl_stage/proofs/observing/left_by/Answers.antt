use Rattle.ncl_stage.proofs.Terms.{All, Base, IfOk-weaker, IsLeft, IsLive, List, Ref, SpaceData, StageCell, StageData, Th12, [], ap, arith, gate, have-length, keeps_all, keeps_along, length, length-map, low_table_by, low_tables_by, net_at, nets_of, subst, suc, sym, zero, ℕ, ◌*◌, ◌+◌, ◌-◌, ◌<◌, ◌∙◌, ◌∷◌, ◌≡◌}
use Rattle.ncl_stage.proofs.ChangedLaws.{nets-length, values-width}
use Rattle.ncl_stage.proofs.ObservingLaws.{left-by}
use Rattle.ncl_stage.proofs.observing.left_by.Goals as goal

pub without-requires-clause-cell : goal.without-requires-clause-cell
without-requires-clause-cell g c =
    let many = ap length (c.items.ensures ∙ ap (λ (t : StageData). t.inputs) c.stage.view_is) in
    omega (arith, many, nets-length c.args.stage.now, c.requires.reader, c.if-reader-rails.false)

pub returns-clause-left : goal.returns-clause-left
returns-clause-left g c =
    let s : StageData = c.args.stage.now in
    let order : List ℕ = c.args.base.now.wiring.order in
    let old : SpaceData = g.P.Space.meaning c.args.space.now in
    let mid : SpaceData = g.P.Space.meaning c.without.new.space in
    let new : SpaceData = g.P.Space.meaning c.apply.new.self in
    let many = ap length (c.items.ensures ∙ ap (λ (t : StageData). t.inputs) c.stage.view_is) in
    let size = nets-length s in
    let cell : ℕ = c.args.reader - 2 * length c.items.result.now in
    let within : cell < length s.cells = omega (arith, many, size, c.requires.reader, c.if-reader-rails.false) in
    let place : c.args.reader ≡ 2 * length s.inputs + cell = omega (arith, many, c.if-reader-rails.false) in
    let lows = have-length old c.args.lows.now (low_tables_by order s) c.requires.lows ∙ length-map (nets_of s.inputs s.cells) (low_table_by order s) in
    let named : c.args.reader < length c.args.lows.now = omega (arith, lows, c.requires.reader) in
    let d : StageCell = gate 0 Th12 [] 0 in
    IfOk-weaker c.apply.result _ (λ next. IsLeft order s (net_at s c.args.place) (new.table next))
    (λ next made. subst (IsLeft order s (net_at s c.args.place)) (sym made.table)
    (left-by s order c.requires.base.wired.order old mid c.in_ok-fallen.ensures.kept (c.in_ok-fallen.ensures.kept.width ∙ values-width old s Base c.args.base.now c.facts-2.ensures c.facts.ensures c.requires.base)
    c.args.place cell c.args.reader within place c.requires.reader c.args.lows.now c.requires.lows named d (record { place = 0 }) c.args.left c.in_ok-fallen.fallen c.requires.live c.requires.left (c.in_ok-fallen.ensures.table d)))
    c.apply.ensures.made

three : (s : SpaceData) (p q r : Ref) → IsLive s p → IsLive s q → IsLive s r → All (IsLive s) (p ∷ q ∷ r ∷ [])
three s p q r first second third zero d lt = first
three s p q r first second third (suc zero) d lt = second
three s p q r first second third (suc (suc zero)) d lt = third
three s p q r first second third (suc (suc (suc k))) d lt = absurd (omega arith)

pub apply-requires-clause-live : goal.apply-requires-clause-live
apply-requires-clause-live g c =
    let s : StageData = c.args.stage.now in
    let old : SpaceData = g.P.Space.meaning c.args.space.now in
    let kept = c.in_ok-fallen.ensures.kept in
    let lows = have-length old c.args.lows.now (low_tables_by c.args.base.now.wiring.order s) c.requires.lows ∙ length-map (nets_of s.inputs s.cells) (low_table_by c.args.base.now.wiring.order s) in
    let named : c.args.reader < length c.args.lows.now = omega (arith, lows, c.requires.reader) in
    three (g.P.Space.meaning c.without.new.space) _ _ _ (kept.live _ c.requires.live) (kept.live _ (c.requires.lows.live c.args.reader (record { place = 0 }) named)) c.in_ok-fallen.ensures.live

pub returns-clause-kept : goal.returns-clause-kept
returns-clause-kept g c =
    keeps_along (g.P.Space.meaning c.args.space.now) (g.P.Space.meaning c.without.new.space) (g.P.Space.meaning c.apply.new.self) c.in_ok-fallen.ensures.kept c.apply.ensures.kept

pub bounds-lows-reader : goal.bounds-lows-reader
bounds-lows-reader g c =
    let s : StageData = c.args.stage.now in
    let order : List ℕ = c.args.base.now.wiring.order in
    let lows = have-length (g.P.Space.meaning c.args.space.now) c.args.lows.now (low_tables_by order s) c.requires.lows ∙ length-map (nets_of s.inputs s.cells) (low_table_by order s) in
    omega (arith, lows, c.requires.reader)

pub returns-then-reader-rails-clause-kept : goal.returns-then-reader-rails-clause-kept
returns-then-reader-rails-clause-kept g c = keeps_all (g.P.Space.meaning c.args.space.now) c.facts-2.ensures
