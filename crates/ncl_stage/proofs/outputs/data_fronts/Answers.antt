use Rattle.ncl_stage.proofs.Terms.{All, Bool, Err, IsLive, IsSpace, List, MakesAll, Making, Option, Ref, Some, SpaceData, [], ap, arith, conjunction, front_tables, get_or, get_or-map, handed_on, keeps_all, keeps_along, length, length-map, making-next, making-none, map, option_map, subst, sym, take, take_all, too_much-next, ℕ, ◌+◌, ◌<◌, ◌^◌, ◌∙◌, ◌≡◌, ◌≤◌}
use Rattle.ncl_stage.proofs.OutputLaws.{IsLast, last-live, last-table, conjunction-at, length-front_tables}
use Rattle.ncl_stage.proofs.outputs.data_fronts.Goals as goal

-- the conjunction that is made next
turn : (old now : SpaceData) → IsSpace old → (refs : List Ref) → All (IsLive old) refs → (i : ℕ) → i < length refs → (made : List Ref) → Making old now made (take i (front_tables old.width (map old.table refs))) → (last : Option Ref) → IsLast made last → (d : Ref) → get_or (front_tables old.width (map old.table refs)) i [] ≡ conjunction now.width (option_map now.table last) (now.table (get_or refs i d))
turn old now space refs live i lt made m last is d =
    let ts : List (List Bool) = map old.table refs in
    let many : length ts ≡ length refs = length-map refs old.table in
    let own : now.table (get_or refs i d) ≡ get_or ts i [] = m.kept.tables (get_or refs i d) (live i d lt) ∙ sym (get_or-map old.table refs i d [] lt) in
    let size : length (get_or ts i []) ≡ 2 ^ old.width = ap length (get_or-map old.table refs i d [] lt) ∙ space.tables (get_or refs i d) (live i d lt) in
    let so_far = last-table now old.width ts i (omega arith) made m.all.refs_of last is in
    sym (conjunction-at old.width ts i (omega arith) size) ∙ (λ k. conjunction (sym m.kept.width k) (sym so_far k) (sym own k))

-- it is one of the conjunctions
next : (old now : SpaceData) → IsSpace old → (refs : List Ref) → All (IsLive old) refs → (i : ℕ) → i < length refs → (made : List Ref) → Making old now made (take i (front_tables old.width (map old.table refs))) → (last : Option Ref) → IsLast made last → (d : Ref)
    → (i < length (front_tables old.width (map old.table refs))) × (get_or (front_tables old.width (map old.table refs)) i [] ≡ conjunction now.width (option_map now.table last) (now.table (get_or refs i d)))
next old now space refs live i lt made m last is d =
    let many : length (front_tables old.width (map old.table refs)) ≡ length refs = length-front_tables old.width (map old.table refs) ∙ length-map refs old.table in
    (subst (λ n. i < n) (sym many) lt, turn old now space refs live i lt made m last is d)

pub loop-next-init : goal.loop-next-init
loop-next-init g c =
    let old : SpaceData = g.P.Space.meaning c.args.space.now in
    record {
      making = subst (λ items. Making old old items []) (sym c.in_ok-made.ensures.items) (making-none old c.facts.ensures);
      last = c.in_ok-made.ensures.items;
    }

pub conjoin-requires-clause-front : goal.conjoin-requires-clause-front
conjoin-requires-clause-front g c = λ x e.
    let is : IsLast c.loop-next.made.items (Some x) = subst (IsLast c.loop-next.made.items) e c.loop-next.invariant.last in
    last-live (g.P.Space.meaning c.loop-next.space) c.loop-next.made.items x c.loop-next.invariant.making.all.refs_of.live is.0 is.1

pub returns-in_err-front-clause-full : goal.returns-in_err-front-clause-full
returns-in_err-front-clause-full g c = λ e.
    let old : SpaceData = g.P.Space.meaning c.args.space.now in
    let now : SpaceData = g.P.Space.meaning c.loop-next.space in
    let (lt, is) = next old now c.facts.ensures c.args.refs.now c.requires c.loop-next.next-index c.loop-next-test.true c.loop-next.made.items c.loop-next.invariant.making c.loop-next.last c.loop-next.invariant.last (record { place = 0 }) in
    too_much-next old now (front_tables old.width (map old.table c.args.refs.now)) c.loop-next.next-index c.loop-next.made.items _ lt is c.loop-next.invariant.making
    (c.in_err-front.ensures.full (ap Err (handed_on c.from_residual-in_err-front.result c.in_err-front.field-0.0 c.from_residual-in_err-front.ensures.1 e)))

pub loop-next-preserved : goal.loop-next-preserved
loop-next-preserved g c =
    let old : SpaceData = g.P.Space.meaning c.args.space.now in
    let now : SpaceData = g.P.Space.meaning c.loop-next.space in
    let new : SpaceData = g.P.Space.meaning c.conjoin.new.space in
    let fronts : List (List Bool) = front_tables old.width (map old.table c.args.refs.now) in
    let (lt, is) = next old now c.facts.ensures c.args.refs.now c.requires c.loop-next.next-index c.loop-next-test.true c.loop-next.made.items c.loop-next.invariant.making c.loop-next.last c.loop-next.invariant.last (record { place = 0 }) in
    record {
      making = subst (λ items. Making old new items (take (c.loop-next.next-index + 1) fronts)) (sym c.in_ok-push.ensures.items)
          (making-next old now new fronts c.loop-next.next-index c.loop-next.made.items c.in_ok-front.front _ lt is c.loop-next.invariant.making c.in_ok-front.ensures.kept c.in_ok-front.ensures.made);
      last = (c.loop-next.made.items, c.in_ok-push.ensures.items);
    }

pub returns-clause-made : goal.returns-clause-made
returns-clause-made g c =
    let old : SpaceData = g.P.Space.meaning c.args.space.now in
    let ts : List (List Bool) = map old.table c.args.refs.now in
    let many : length (front_tables old.width ts) ≡ length c.args.refs.now = length-front_tables old.width ts ∙ length-map c.args.refs.now old.table in
    subst (MakesAll old (g.P.Space.meaning c.loop-next.space) c.loop-next.made.items)
    (take_all c.loop-next.next-index (front_tables old.width ts) (subst (λ n. n ≤ c.loop-next.next-index) (sym many) c.loop-next-test.false))
    c.loop-next.invariant.making.all

pub conjoin-requires-clause-next : goal.conjoin-requires-clause-next
conjoin-requires-clause-next g c =
    c.loop-next.invariant.making.kept.live _ (c.requires c.loop-next.next-index (record { place = 0 }) c.loop-next-test.true)

pub returns-in_err-push-clause-kept : goal.returns-in_err-push-clause-kept
returns-in_err-push-clause-kept g c =
    keeps_along (g.P.Space.meaning c.args.space.now) (g.P.Space.meaning c.loop-next.space) (g.P.Space.meaning c.conjoin.new.space) c.loop-next.invariant.making.kept c.in_ok-front.ensures.kept

pub returns-in_err-made-clause-kept : goal.returns-in_err-made-clause-kept
returns-in_err-made-clause-kept g c = keeps_all (g.P.Space.meaning c.args.space.now) c.facts.ensures

pub returns-in_err-front-clause-kept : goal.returns-in_err-front-clause-kept
returns-in_err-front-clause-kept g c =
    keeps_along (g.P.Space.meaning c.args.space.now) (g.P.Space.meaning c.loop-next.space) (g.P.Space.meaning c.conjoin.new.space) c.loop-next.invariant.making.kept c.in_err-front.ensures.kept

pub returns-clause-kept : goal.returns-clause-kept
returns-clause-kept g c = c.loop-next.invariant.making.kept
