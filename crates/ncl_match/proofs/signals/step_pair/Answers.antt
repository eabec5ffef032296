use Rattle.ncl_match.proofs.SignalLaws.{All, Bool, HasFunction, IfOk-weaker, IsPair, MakesPair, SpaceData, ap, cover_function, cover_tables, functions_at, map, none-made, pair_at, pairs-at, subst, sym, true, ◌∙◌, ◌≡◌}
use Rattle.ncl_match.proofs.signals.step_pair.Goals as goal

pub returns-then-not-is_marked-clause-held : goal.returns-then-not-is_marked-clause-held
returns-then-not-is_marked-clause-held g c =
    let s = g.P.Space.meaning c.args.space.now in
    none-made s c.args.is_marked (cover_tables s.width (functions_at s (map (pair_at c.args.pairs.now) c.args.step.now.ins)) c.args.step.now.cover.now.rows) c.if-not-is_marked.true

pub cover_pair-requires-clause-pairs : goal.cover_pair-requires-clause-pairs
cover_pair-requires-clause-pairs g c =
    let s : SpaceData = g.P.Space.meaning c.args.space.now in
    let ins_are : c.deref.result.now ≡ map (pair_at c.args.pairs.now) c.args.step.now.ins =
    c.deref.ensures.value ∙ c.in_ok-ins.ensures ∙ ap (map (pair_at c.args.pairs.now)) c.items.ensures in
    subst (All (IsPair s)) (sym ins_are) (pairs-at s c.args.pairs.now c.args.step.now.ins c.requires.pairs c.requires.within)

pub returns-clause-has : goal.returns-clause-has
returns-clause-has g c =
    let s : SpaceData = g.P.Space.meaning c.args.space.now in
    let new : SpaceData = g.P.Space.meaning c.cover_pair.new.space in
    let rows = c.args.step.now.cover.now.rows in
    let on : Bool = c.args.step.now.cover.now.on in
    let ins_are : c.deref.result.now ≡ map (pair_at c.args.pairs.now) c.args.step.now.ins =
    c.deref.ensures.value ∙ c.in_ok-ins.ensures ∙ ap (map (pair_at c.args.pairs.now)) c.items.ensures in
    IfOk-weaker c.cover_pair.result
    (λ p. MakesPair s new p (cover_function (functions_at s c.deref.result.now) on rows) (cover_tables s.width (functions_at s c.deref.result.now) rows))
    (λ p. c.args.is_marked ≡ true → HasFunction new p (cover_function (functions_at s (map (pair_at c.args.pairs.now) c.args.step.now.ins)) on rows))
    (λ p made mark. subst (λ ins. HasFunction new p (cover_function (functions_at s ins) on rows)) ins_are made.has)
    c.cover_pair.ensures.made
