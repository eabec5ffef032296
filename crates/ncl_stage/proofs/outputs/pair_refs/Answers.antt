use Rattle.ncl_stage.proofs.Terms.{All, Bool, Err, IsLive, Keeps, Kind, List, Makes, MakesAll, Making, Ref, SpaceData, [], ap, drop, false, fits, gate_table, get_or, get_or-map, handed_on, keeps_all, keeps_along, length, making-none, making-one, map, map-cut, map_more, pair_table, subst, sym, take, take_all, too_much-front, ℕ, ◌++◌, ◌+◌, ◌<◌, ◌∙◌, ◌∷◌, ◌≡◌, both-live}
use Rattle.ncl_stage.proofs.outputs.pair_refs.Goals as goal

-- the gate on two Refs that were live at first
turn : (old now : SpaceData) → Keeps old now → (refs : List Ref) → All (IsLive old) refs → (kind : Kind) (pairs : List (ℕ × ℕ)) → All (λ (pair : ℕ × ℕ). (pair.0 < length refs) × (pair.1 < length refs)) pairs → (i : ℕ) → i < length pairs → (d : Ref)
    → gate_table now.width kind (now.table (get_or refs (get_or pairs i (0, 0)).0 d) ∷ now.table (get_or refs (get_or pairs i (0, 0)).1 d) ∷ []) ≡ pair_table old.width kind (map old.table refs) (get_or pairs i (0, 0))
turn old now k refs live kind pairs each i lt d =
    let (p, q) = get_or pairs i (0, 0) in
    let within = each i (0, 0) lt in
    let one : now.table (get_or refs p d) ≡ get_or (map old.table refs) p [] = k.tables (get_or refs p d) (live p d within.0) ∙ sym (get_or-map old.table refs p d [] within.0) in
    let two : now.table (get_or refs q d) ≡ get_or (map old.table refs) q [] = k.tables (get_or refs q d) (live q d within.1) ∙ sym (get_or-map old.table refs q d [] within.1) in
    λ i. gate_table (k.width i) kind (one i ∷ two i ∷ [])

pub loop-pair-init : goal.loop-pair-init
loop-pair-init g c =
    let old : SpaceData = g.P.Space.meaning c.args.space.now in
    subst (λ items. Making old old items []) (sym c.in_ok-made.ensures.items) (making-none old c.facts.ensures)

pub returns-in_err-one-clause-full : goal.returns-in_err-one-clause-full
returns-in_err-one-clause-full g c = λ e.
    let old : SpaceData = g.P.Space.meaning c.args.space.now in
    let now : SpaceData = g.P.Space.meaning c.loop-pair.space in
    let pairs = c.args.pairs.now in
    let refs = c.args.refs.now in
    let i = c.loop-pair.pair-index in
    let pair : ℕ × ℕ = get_or pairs i (0, 0) in
    let f : ℕ × ℕ → List Bool = pair_table old.width c.args.kind (map old.table refs) in
    too_much-front old now c.loop-pair.made.items (map f (take i pairs)) (f pair) (map f (drop (i + 1) pairs)) (map f pairs)
    (map-cut f pairs i (0, 0) c.loop-pair-test.true) c.loop-pair.invariant
    (subst (λ t. fits now (t ∷ []) ≡ false) (turn old now c.loop-pair.invariant.kept refs c.requires.live c.args.kind pairs c.requires.within i c.loop-pair-test.true (record { place = 0 }))
    (c.in_err-one.ensures.full (ap Err (handed_on c.from_residual-in_err-one.result c.in_err-one.field-0.0 c.from_residual-in_err-one.ensures.1 e))))

pub loop-pair-preserved : goal.loop-pair-preserved
loop-pair-preserved g c =
    let old : SpaceData = g.P.Space.meaning c.args.space.now in
    let now : SpaceData = g.P.Space.meaning c.loop-pair.space in
    let new : SpaceData = g.P.Space.meaning c.apply.new.self in
    let pairs = c.args.pairs.now in
    let refs = c.args.refs.now in
    let i = c.loop-pair.pair-index in
    let pair : ℕ × ℕ = get_or pairs i (0, 0) in
    let f : ℕ × ℕ → List Bool = pair_table old.width c.args.kind (map old.table refs) in
    let made : Makes now new c.in_ok-one.one (f pair) =
    subst (Makes now new c.in_ok-one.one) (turn old now c.loop-pair.invariant.kept refs c.requires.live c.args.kind pairs c.requires.within i c.loop-pair-test.true (record { place = 0 })) c.in_ok-one.ensures.made in
    subst (λ items. Making old new items (map f (take (i + 1) pairs))) (sym c.in_ok-push.ensures.items)
    (subst (Making old new (c.loop-pair.made.items ++ c.in_ok-one.one ∷ [])) (sym (map_more f pairs i (0, 0) c.loop-pair-test.true))
    (making-one old now new c.loop-pair.made.items (map f (take i pairs)) c.in_ok-one.one (f pair) c.loop-pair.invariant c.in_ok-one.ensures.kept made))

pub bounds-refs-pair : goal.bounds-refs-pair
bounds-refs-pair g c = (c.requires.within c.loop-pair.pair-index (0, 0) c.loop-pair-test.true).0

pub bounds-refs-pair-in-loop-pair : goal.bounds-refs-pair-in-loop-pair
bounds-refs-pair-in-loop-pair g c = (c.requires.within c.loop-pair.pair-index (0, 0) c.loop-pair-test.true).1

pub apply-requires-clause-arity : goal.apply-requires-clause-arity
apply-requires-clause-arity g c = sym c.requires.kind

pub apply-requires-clause-live : goal.apply-requires-clause-live
apply-requires-clause-live g c =
    let none : Ref = record { place = 0 } in
    let within = c.requires.within c.loop-pair.pair-index (0, 0) c.loop-pair-test.true in
    both-live (g.P.Space.meaning c.loop-pair.space) _ _ (c.loop-pair.invariant.kept.live _ (c.requires.live _ none within.0)) (c.loop-pair.invariant.kept.live _ (c.requires.live _ none within.1))

pub returns-in_err-push-clause-kept : goal.returns-in_err-push-clause-kept
returns-in_err-push-clause-kept g c =
    keeps_along (g.P.Space.meaning c.args.space.now) (g.P.Space.meaning c.loop-pair.space) (g.P.Space.meaning c.apply.new.self) c.loop-pair.invariant.kept c.in_ok-one.ensures.kept

pub returns-in_err-made-clause-kept : goal.returns-in_err-made-clause-kept
returns-in_err-made-clause-kept g c = keeps_all (g.P.Space.meaning c.args.space.now) c.facts.ensures

pub returns-in_err-one-clause-kept : goal.returns-in_err-one-clause-kept
returns-in_err-one-clause-kept g c =
    keeps_along (g.P.Space.meaning c.args.space.now) (g.P.Space.meaning c.loop-pair.space) (g.P.Space.meaning c.apply.new.self) c.loop-pair.invariant.kept c.in_err-one.ensures.kept

pub returns-clause-made : goal.returns-clause-made
returns-clause-made g c =
    let old : SpaceData = g.P.Space.meaning c.args.space.now in
    subst (λ pairs. MakesAll old (g.P.Space.meaning c.loop-pair.space) c.loop-pair.made.items (map (pair_table old.width c.args.kind (map old.table c.args.refs.now)) pairs))
    (take_all c.loop-pair.pair-index c.args.pairs.now c.loop-pair-test.false) c.loop-pair.invariant.all

pub returns-clause-kept : goal.returns-clause-kept
returns-clause-kept g c = c.loop-pair.invariant.kept
