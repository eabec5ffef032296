use Rattle.ncl_stage.proofs.Terms.{AreValues, AreWaiting, Base, Bool, Contains, Err, IsLive, IsStage, IsTrue, IsUnchanged, Keeps, List, Makes, MakesAll, Making, MarksChanges, Ref, SpaceData, StageData, ValuesData, Variant, WiringData, [], ap, arith, drop, false, from_test, get_or, get_or-replicate, handed_on, have-length, keeps_along, length, length-append, length-map, length-replicate, length-take-le, making-next, making-none, net_at, net_table_by, net_tables_by, nets_of, not, pin_places, refl, replicate, rules, subst, sym, take, take_all, too_much-next, true, ℕ, ◌++◌, ◌+◌, ◌-◌, ◌<◌, ◌↔◌, ◌∙◌, ◌∷◌, ◌≡◌, ◌≤◌}
use Rattle.ncl_stage.proofs.ChangedLaws.{marks-more, marks-none, nets-length, table-at, value-at, values-kept}
use Rattle.ncl_stage.proofs.Unvisited.{making-along, marks-along}
use Rattle.ncl_stage.proofs.Waiting.{between, waiting-next}
use Rattle.ncl_stage.proofs.changes.follow.Goals as goal

-- what was left out between the places so far and another
left : (old now : SpaceData) (s : StageData) (v : ValuesData) (variant : Variant) → IsStage s → AreValues now s Base v → (refs : List Ref) (waiting : List Bool) (to : ℕ) → Making old now refs (take (length refs) (net_tables_by v.wiring.order s variant)) → AreWaiting v.wiring s variant (length refs) waiting → length refs ≤ to → to ≤ length v.wiring.nets
    → ((other : ℕ) → length refs ≤ other → other < to → get_or waiting other true ≡ false)
    → Making old now (refs ++ take (to - length refs) (drop (length refs) v.refs)) (take to (net_tables_by v.wiring.order s variant)) × ((place : ℕ) → length refs ≤ place → place < to → IsUnchanged v.wiring.order s variant (net_at s place))
left old now s v variant is are refs waiting to making waits after within none =
    let same = between s is v.wiring are.wired variant waiting (length refs) to waits within none in
    (making-along old now s v.wiring.order variant v.refs refs (length refs) to after are.shown same making, same)

-- the marks so far, and then none up to another place
unmarked : (s : StageData) (order : List ℕ) (variant : Variant) (changed new : List Bool) (to : ℕ) → MarksChanges order s variant changed → length changed ≤ to → ((place : ℕ) → length changed ≤ place → place < to → IsUnchanged order s variant (net_at s place)) → new ≡ changed ++ replicate (to - length changed) false → MarksChanges order s variant new × (length new ≡ to)
unmarked s order variant changed new to marks after same is =
    let more : List Bool = replicate (to - length changed) false in
    let many : length more ≡ to - length changed = length-replicate (to - length changed) false in
    let size = length-append changed more in
    let long : length new ≡ to = omega (arith, ap length is, size, many, after) in (
      subst (MarksChanges order s variant) (sym is)
          (marks-along s order variant changed more marks (λ k lt. get_or-replicate (to - length changed) k false true (subst (λ n. k < n) many lt))
          (λ place behind lt. same place behind (omega (arith, lt, many, after)))),
      long,
    )

pub loop-place-init : goal.loop-place-init
loop-place-init g c =
    let s : StageData = c.args.stage.now in
    let order : List ℕ = c.args.base.now.wiring.order in
    let old : SpaceData = g.P.Space.meaning c.args.space.now in
    let empty = ap length c.requires.refs in
    record {
      making = subst (λ items. Making old old items (take (length items) (net_tables_by order s c.args.variant))) (sym c.requires.refs) (making-none old c.facts-2.ensures);
      many = ap length c.requires.changed ∙ sym empty;
      within = omega (arith, empty);
      marks = subst (MarksChanges order s c.args.variant) (sym c.requires.changed) (marks-none s order c.args.variant);
      waiting = subst (λ n. AreWaiting c.args.base.now.wiring s c.args.variant n c.args.changes.now.waiting.items) (sym empty) c.requires.waiting;
    }

-- the first place that waits, told of the marks themselves
abbrev IsFirst : List Bool → ℕ → ℕ → Type 0
IsFirst waiting from place = (from ≤ place) × (place < length waiting) × ((other : ℕ) → from ≤ other → other < place → get_or waiting other true ≡ false)

first : (waiting slice : List Bool) (len from place : ℕ) → slice ≡ waiting → len ≡ from → IsFirst slice len place → IsFirst waiting from place
first waiting slice len from place same at found = subst (λ l. IsFirst l from place) same (subst (λ n. IsFirst slice n place) at found)

-- what has been made up to there
made-up-to : (old now : SpaceData) (s : StageData) (v : ValuesData) (variant : Variant) → IsStage s → AreValues old s Base v → (refs all more : List Ref) (waiting : List Bool) (place : ℕ) → Making old now refs (take (length refs) (net_tables_by v.wiring.order s variant)) → AreWaiting v.wiring s variant (length refs) waiting → IsFirst waiting (length refs) place → all ≡ v.refs → more ≡ refs ++ take (place - length refs) (drop (length refs) all)
    → Making old now more (take place (net_tables_by v.wiring.order s variant)) × ((other : ℕ) → length refs ≤ other → other < place → IsUnchanged v.wiring.order s variant (net_at s other)) × (length more ≡ place)
made-up-to old now s v variant is base refs all more waiting place making waits found named grown =
    let are = values-kept old now s Base v making.kept base in
    let rest = left old now s v variant is are refs waiting place making waits found.0 (omega (arith, found.1, waits.many)) found.2 in
    let whole : more ≡ refs ++ take (place - length refs) (drop (length refs) v.refs) = grown ∙ ap (λ l. refs ++ take (place - length refs) (drop (length refs) l)) named in
    let made = subst (λ items. Making old now items (take place (net_tables_by v.wiring.order s variant))) (sym whole) rest.0 in
    let all = length-map (nets_of s.inputs s.cells) (net_table_by v.wiring.order s variant) in
    let nets = ap length base.wired.nets in
    let long = length-take-le place (net_tables_by v.wiring.order s variant) (omega (arith, all, nets, found.1, waits.many)) in
    (made, rest.1, have-length now more (take place (net_tables_by v.wiring.order s variant)) made.all.refs_of ∙ long)

pub ref_from-requires : goal.ref_from-requires
ref_from-requires g c =
    let s : StageData = c.args.stage.now in
    let now : SpaceData = g.P.Space.meaning c.loop-place.space in
    let inv = c.loop-place.invariant in
    let found = first c.loop-place.changes.waiting.items c.as_slice.result.now c.len.result (length c.loop-place.changes.refs.items) c.in-Some.place c.as_slice.ensures.value (omega (arith, c.len.ensures)) c.in-Some.ensures in
    let up = made-up-to (g.P.Space.meaning c.args.space.now) now s c.args.base.now c.args.variant c.facts.ensures c.requires.base c.loop-place.changes.refs.items c.refs-all.result.now c.pass.new.self.refs.items c.loop-place.changes.waiting.items c.in-Some.place inv.making inv.waiting found c.refs-all.ensures.refs c.in_ok-pass.ensures.refs in
    let marks = unmarked s c.args.base.now.wiring.order c.args.variant c.loop-place.changes.changed.items c.pass.new.self.changed.items c.in-Some.place inv.marks (omega (arith, inv.many, found.0)) (λ place behind before. up.1 place (omega (arith, behind, inv.many)) before) c.in_ok-pass.ensures.changed in
    record {
      base = values-kept (g.P.Space.meaning c.args.space.now) now s Base c.args.base.now inv.making.kept c.requires.base;
      place = search rules;
      refs = up.0.all.refs_of;
      many = marks.1;
      changed = marks.0;
    }

pub returns-in_err-made-clause-full : goal.returns-in_err-made-clause-full
returns-in_err-made-clause-full g c = λ e.
    let s : StageData = c.args.stage.now in
    let order : List ℕ = c.args.base.now.wiring.order in
    let place = c.in-Some.place in
    let now : SpaceData = g.P.Space.meaning c.loop-place.space in
    let inv = c.loop-place.invariant in
    let found = first c.loop-place.changes.waiting.items c.as_slice.result.now c.len.result (length c.loop-place.changes.refs.items) c.in-Some.place c.as_slice.ensures.value (omega (arith, c.len.ensures)) c.in-Some.ensures in
    let up = made-up-to (g.P.Space.meaning c.args.space.now) now s c.args.base.now c.args.variant c.facts.ensures c.requires.base c.loop-place.changes.refs.items c.refs-all.result.now c.pass.new.self.refs.items c.loop-place.changes.waiting.items c.in-Some.place inv.making inv.waiting found c.refs-all.ensures.refs c.in_ok-pass.ensures.refs in
    let nets = ap length c.requires.base.wired.nets in
    let within : place < length (nets_of s.inputs s.cells) = omega (arith, found.1, inv.waiting.many, nets) in
    too_much-next (g.P.Space.meaning c.args.space.now) now (net_tables_by order s c.args.variant) place c.pass.new.self.refs.items (net_table_by order s c.args.variant (net_at s place))
    (subst (λ n. place < n) (sym (length-map (nets_of s.inputs s.cells) (net_table_by order s c.args.variant))) within)
    (table-at s order c.args.variant place within) up.0
    (c.in_err-made.ensures.full (ap Err (handed_on c.from_residual-in_err-made.result c.in_err-made.field-0.0 c.from_residual-in_err-made.ensures.1 e)))

-- a mark that says whether a test fails is none exactly where what the test tells holds
tells : {P : Type 0} (same : Bool) → IsTrue same ↔ P → (not same ≡ false) ↔ P
tells true iff = (λ e. iff.0 (search rules), λ p. refl)
tells {P} false iff = (λ e. absurd cc, λ p. (let no : IsTrue false = iff.1 p in absurd cc))

-- the marks, and one more that says whether a net has changed
marked-next : (s : StageData) (order : List ℕ) (variant : Variant) (marks more : List Bool) (same : Bool) (place : ℕ) → MarksChanges order s variant marks → length marks ≡ place → IsTrue same ↔ IsUnchanged order s variant (net_at s place) → more ≡ marks ++ not same ∷ [] → MarksChanges order s variant more
marked-next s order variant marks more same place marked many iff is =
    subst (MarksChanges order s variant) (sym is)
    (marks-more s order variant marks (not same) marked (subst (λ n. (not same ≡ false) ↔ IsUnchanged order s variant (net_at s n)) (sym many) (tells same iff)))

-- the functions, and one more
made-next : (old now new : SpaceData) (s : StageData) (order : List ℕ) (variant : Variant) (place : ℕ) (refs more : List Ref) (r : Ref) → place < length (nets_of s.inputs s.cells) → length refs ≡ place → Making old now refs (take place (net_tables_by order s variant)) → Keeps now new → Makes now new r (net_table_by order s variant (net_at s place)) → more ≡ refs ++ r ∷ [] → Making old new more (take (length more) (net_tables_by order s variant))
made-next old now new s order variant place refs more r within many made kept makes is =
    let size : length more ≡ place + 1 = ap length is ∙ length-append refs (r ∷ []) ∙ ap (λ n. n + 1) many in
    subst (λ n. Making old new more (take n (net_tables_by order s variant))) (sym size)
    (subst (λ items. Making old new items (take (place + 1) (net_tables_by order s variant))) (sym is)
    (making-next old now new (net_tables_by order s variant) place refs r (net_table_by order s variant (net_at s place))
    (subst (λ n. place < n) (sym (length-map (nets_of s.inputs s.cells) (net_table_by order s variant))) within)
    (table-at s order variant place within) made kept makes))

pub loop-place-preserved : goal.loop-place-preserved
loop-place-preserved g c =
    let s : StageData = c.args.stage.now in
    let w : WiringData = c.args.base.now.wiring in
    let variant = c.args.variant in
    let place = c.in-Some.place in
    let none : Ref = record { place = 0 } in
    let old : SpaceData = g.P.Space.meaning c.args.space.now in
    let now : SpaceData = g.P.Space.meaning c.loop-place.space in
    let new : SpaceData = g.P.Space.meaning c.ref_from.new.space in
    let inv = c.loop-place.invariant in
    let found = first c.loop-place.changes.waiting.items c.as_slice.result.now c.len.result (length c.loop-place.changes.refs.items) c.in-Some.place c.as_slice.ensures.value (omega (arith, c.len.ensures)) c.in-Some.ensures in
    let up = made-up-to old now s c.args.base.now variant c.facts.ensures c.requires.base c.loop-place.changes.refs.items c.refs-all.result.now c.pass.new.self.refs.items c.loop-place.changes.waiting.items place inv.making inv.waiting found c.refs-all.ensures.refs c.in_ok-pass.ensures.refs in
    let marks : List Bool = c.pass.new.self.changed.items in
    let marked = unmarked s w.order variant c.loop-place.changes.changed.items marks place inv.marks (omega (arith, inv.many, found.0)) (λ p behind before. up.1 p (omega (arith, behind, inv.many)) before) c.in_ok-pass.ensures.changed in
    let made = c.in_ok-made.ensures.made in
    let is_same = c.same-is_same.result in
    let nets = ap length c.requires.base.wired.nets in
    let within : place < length (nets_of s.inputs s.cells) = omega (arith, found.1, inv.waiting.many, nets) in
    let up_to = c.in_ok-made.ensures.kept in
    let kept = values-kept old new s Base c.args.base.now (keeps_along old now new inv.making.kept up_to) c.requires.base in
    let value = value-at new s Base c.args.base.now kept place none within in
    let own = ap (λ (rs : List Ref). new.table (get_or rs place none)) c.refs-all.ensures.refs in
    let iff : IsTrue is_same ↔ IsUnchanged w.order s variant (net_at s place) =
    subst (λ t. IsTrue is_same ↔ (t ≡ net_table_by w.order s Base (net_at s place))) made.table
    (subst (λ t. IsTrue is_same ↔ (new.table c.in_ok-made.made ≡ t)) (own ∙ value.1) c.same-is_same.ensures) in
    let grown = length-append marks (not is_same ∷ []) in
    let refs_many = ap length c.in_ok-push.ensures.refs in
    let size = length-append c.pass.new.self.refs.items (c.in_ok-made.made ∷ []) in
    let long : length c.pass.new.self.refs.items + 1 ≡ place + 1 = ap (λ n. n + 1) up.2 in
    let rails = nets-length s in
    let pins : length w.pins ≡ length s.cells = ap length c.requires.base.wired.pins ∙ length-map s.cells (pin_places w.nets) in
    let all : (cell : ℕ) → cell < length w.pins → Contains (get_or w.pins cell []) place → Contains c.readers.result.now (length w.nets - length w.pins + cell) =
    subst (λ (x : WiringData). (cell : ℕ) → cell < length x.pins → Contains (get_or x.pins cell []) place → Contains c.readers.result.now (length x.nets - length x.pins + cell)) c.wiring.ensures c.readers.ensures.all in
    record {
      making = made-next old now new s w.order variant place c.pass.new.self.refs.items _ c.in_ok-made.made within up.2 up.0 up_to made c.in_ok-push.ensures.refs;
      many = omega (arith, ap length c.in_ok-push.ensures.changed, grown, marked.1, refs_many, size, long);
      within = omega (arith, refs_many, size, long, within, nets);
      marks = marked-next s w.order variant marks _ is_same place marked.0 marked.1 iff c.in_ok-push.ensures.changed;
      waiting =
          subst (λ n. AreWaiting w s variant n c.push.new.self.waiting.items) (sym (refs_many ∙ size ∙ long))
          (waiting-next s w variant c.loop-place.changes.waiting.items c.push.new.self.waiting.items (length c.loop-place.changes.refs.items) place is_same inv.waiting found.0
          (c.in_ok-push.ensures.many ∙ ap length c.in_ok-pass.ensures.waiting) (λ p unmarked. subst (λ l. get_or l p true ≡ false) c.in_ok-pass.ensures.waiting (c.in_ok-push.ensures.kept p unmarked))
          (λ e cell lt reads.
          subst (λ n. get_or c.push.new.self.waiting.items n true ≡ true) (omega (arith, rails, pins, nets))
          (c.in_ok-push.ensures.readers e (length w.nets - length w.pins + cell) (all cell (omega (arith, lt, rails, pins, nets)) reads))) up.1 (from_test is_same iff));
    }

pub returns-clause-made : goal.returns-clause-made
returns-clause-made g c =
    let s : StageData = c.args.stage.now in
    let w : WiringData = c.args.base.now.wiring in
    let variant = c.args.variant in
    let old : SpaceData = g.P.Space.meaning c.args.space.now in
    let now : SpaceData = g.P.Space.meaning c.loop-place.space in
    let inv = c.loop-place.invariant in
    let nets = ap length c.requires.base.wired.nets in
    let from = length c.loop-place.changes.refs.items in
    let all : length (net_tables_by w.order s variant) ≡ length w.nets = length-map (nets_of s.inputs s.cells) (net_table_by w.order s variant) ∙ sym nets in
    let none : (other : ℕ) → from ≤ other → other < length w.nets → get_or c.loop-place.changes.waiting.items other true ≡ false =
    λ other behind before. subst (λ l. get_or l other true ≡ false) c.as_slice.ensures.value (c.in_default.ensures other (omega (arith, behind, c.len.ensures)) (omega (arith, before, ap length c.as_slice.ensures.value, inv.waiting.many))) in
    let rest = left old now s c.args.base.now variant c.facts.ensures (values-kept old now s Base c.args.base.now inv.making.kept c.requires.base) c.loop-place.changes.refs.items c.loop-place.changes.waiting.items (length w.nets) inv.making inv.waiting inv.within (omega arith) none in
    let long : length c.refs-all.result.now ≡ length w.nets = ap length c.refs-all.ensures.refs ∙ c.refs-all.ensures.many in
    let whole : c.pass-2.new.self.refs.items ≡ c.loop-place.changes.refs.items ++ take (length w.nets - from) (drop from c.args.base.now.refs) =
    c.in_ok-pass-2.ensures.refs ∙ (λ i. c.loop-place.changes.refs.items ++ take (long i - from) (drop from (c.refs-all.ensures.refs i))) in
    subst (λ items. MakesAll old now items (net_tables_by w.order s variant)) (sym whole)
    (subst (MakesAll old now (c.loop-place.changes.refs.items ++ take (length w.nets - from) (drop from c.args.base.now.refs))) (take_all (length w.nets) (net_tables_by w.order s variant) (omega (arith, all))) rest.0.all)

pub returns-in_err-made-clause-kept : goal.returns-in_err-made-clause-kept
returns-in_err-made-clause-kept g c =
    keeps_along (g.P.Space.meaning c.args.space.now) (g.P.Space.meaning c.loop-place.space) (g.P.Space.meaning c.ref_from.new.space) c.loop-place.invariant.making.kept c.in_err-made.ensures.kept

pub returns-in_err-push-clause-kept : goal.returns-in_err-push-clause-kept
returns-in_err-push-clause-kept g c =
    keeps_along (g.P.Space.meaning c.args.space.now) (g.P.Space.meaning c.loop-place.space) (g.P.Space.meaning c.ref_from.new.space) c.loop-place.invariant.making.kept c.in_ok-made.ensures.kept

pub bounds-all-place : goal.bounds-all-place
bounds-all-place g c =
    let found = first c.loop-place.changes.waiting.items c.as_slice.result.now c.len.result (length c.loop-place.changes.refs.items) c.in-Some.place c.as_slice.ensures.value (omega (arith, c.len.ensures)) c.in-Some.ensures in
    let long : length c.refs-all.result.now ≡ length c.args.base.now.wiring.nets = ap length c.refs-all.ensures.refs ∙ c.refs-all.ensures.many in
    omega (arith, found.1, c.loop-place.invariant.waiting.many, long)

pub same-is_same-requires-clause-x : goal.same-is_same-requires-clause-x
same-is_same-requires-clause-x g c = c.in_ok-made.ensures.made.live

pub same-is_same-requires-clause-y : goal.same-is_same-requires-clause-y
same-is_same-requires-clause-y g c =
    let s : StageData = c.args.stage.now in
    let none : Ref = record { place = 0 } in
    let old : SpaceData = g.P.Space.meaning c.args.space.now in
    let now : SpaceData = g.P.Space.meaning c.loop-place.space in
    let new : SpaceData = g.P.Space.meaning c.ref_from.new.space in
    let inv = c.loop-place.invariant in
    let found = first c.loop-place.changes.waiting.items c.as_slice.result.now c.len.result (length c.loop-place.changes.refs.items) c.in-Some.place c.as_slice.ensures.value (omega (arith, c.len.ensures)) c.in-Some.ensures in
    let nets = ap length c.requires.base.wired.nets in
    let within : c.in-Some.place < length (nets_of s.inputs s.cells) = omega (arith, found.1, inv.waiting.many, nets) in
    let kept = values-kept old new s Base c.args.base.now (keeps_along old now new inv.making.kept c.in_ok-made.ensures.kept) c.requires.base in
    subst (λ (rs : List Ref). IsLive new (get_or rs c.in-Some.place none)) (sym c.refs-all.ensures.refs) (value-at new s Base c.args.base.now kept c.in-Some.place none within).0

pub readers-requires : goal.readers-requires
readers-requires g c =
    let found = first c.loop-place.changes.waiting.items c.as_slice.result.now c.len.result (length c.loop-place.changes.refs.items) c.in-Some.place c.as_slice.ensures.value (omega (arith, c.len.ensures)) c.in-Some.ensures in
    subst (λ (x : WiringData). c.in-Some.place < length x.nets) (sym c.wiring.ensures) (omega (arith, found.1, c.loop-place.invariant.waiting.many))

pub push-requires : goal.push-requires
push-requires g c = λ k d lt.
    let within : get_or c.readers.result.now k d < length c.args.base.now.wiring.nets =
    subst (λ (x : WiringData). get_or c.readers.result.now k d < length x.nets) c.wiring.ensures (c.readers.ensures.within k d lt) in
    omega (arith, within, c.loop-place.invariant.waiting.many, ap length c.in_ok-pass.ensures.waiting)

pub returns-in_err-pass-clause-kept : goal.returns-in_err-pass-clause-kept
returns-in_err-pass-clause-kept g c = c.loop-place.invariant.making.kept

pub returns-in_err-pass-2-clause-kept : goal.returns-in_err-pass-2-clause-kept
returns-in_err-pass-2-clause-kept g c = c.loop-place.invariant.making.kept

pub returns-clause-kept : goal.returns-clause-kept
returns-clause-kept g c = c.loop-place.invariant.making.kept

pub loop-place-smaller : goal.loop-place-smaller
loop-place-smaller g c =
    let waits = c.loop-place.invariant.waiting.many in
    let refs = c.loop-place.changes.refs.items in
    let passed = ap length c.in_ok-pass.ensures.refs ∙ length-append refs (take (c.in-Some.place - length refs) (drop (length refs) c.refs-all.result.now)) in
    let pushed = ap length c.in_ok-push.ensures.refs ∙ length-append c.pass.new.self.refs.items (c.in_ok-made.made ∷ []) in
    omega (arith, passed, pushed, waits, c.in-Some.ensures, c.len.ensures, ap length c.as_slice.ensures.value)
