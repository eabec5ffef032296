use Rattle.ncl_complete.proofs.Terms.{All, All-append, AreValues, Base, Bool, Err, HaveTables, IsNamed, IsOrderOf, IsSpace, IsStage, Keeps, List, MakesAll, Ref, SpaceData, StageData, Th12, Th22, ValuesData, WiringData, ap, data-tables, data_fronts, data_functions, false, fits, front-tables, front_tables, function_tables_by, handed_on, have-kept, have-length, held-along, illegal-tables, illegal_functions, keeps_all, keeps_along, length, length-map, map, named-all, net_table_by, net_tables_by, nets_of, outputs-within, pair_table, rules, shared-tables, subst, sym, tables-kept, tables_by, tables_of-parts, too_much-after, too_much_by_front, values-width, values_at, with_tables, with_tables-live, ℕ, ◌++◌, ◌<◌, ◌∙◌, ◌≡◌}
use Rattle.ncl_complete.proofs.rails.output_refs.Goals as goal

-- the lists of tables of Base
abbrev some_tables : List ℕ → StageData → List (List Bool)
some_tables order s = function_tables_by order (data_functions s (values_at s Base))

abbrev fronts_of : List ℕ → StageData → List (List Bool)
fronts_of order s = function_tables_by order (data_fronts s (values_at s Base))

abbrev both_tables : List ℕ → StageData → List (List Bool)
both_tables order s = function_tables_by order (illegal_functions s (values_at s Base))

base-parts : (order : List ℕ) (s : StageData) → tables_by order s Base ≡ ((net_tables_by order s Base ++ some_tables order s) ++ fronts_of order s) ++ both_tables order s
base-parts order s = tables_of-parts s order Base ∙ ap (λ l. l ++ both_tables order s) (shared-tables s order Base)

-- the nets are held already
nets-held : (old : SpaceData) → IsSpace old → (s : StageData) (v : ValuesData) → AreValues old s Base v → old.held ≡ with_tables old (net_tables_by v.wiring.order s Base)
nets-held old space s v are = sym (with_tables-live old space v.refs are.shown.live) ∙ ap (with_tables old) are.shown.tables

within : (s : StageData) → IsStage s → (old : SpaceData) (v : ValuesData) → AreValues old s Base v → All (λ pair. (pair.0 < length v.refs) × (pair.1 < length v.refs)) v.wiring.outputs
within s is old v are = outputs-within s is v.wiring are.wired (length v.refs) (have-length old v.refs (net_tables_by v.wiring.order s Base) are.shown ∙ length-map (nets_of s.inputs s.cells) (net_table_by v.wiring.order s Base))

-- the tables that are made of the outputs
made-some : (s : StageData) → IsStage s → (old : SpaceData) → old.width ≡ length s.inputs → (v : ValuesData) → AreValues old s Base v → (refs : List Ref) → refs ≡ v.refs → (w : WiringData) → w ≡ v.wiring → map (pair_table old.width Th12 (map old.table refs)) w.outputs ≡ some_tables v.wiring.order s
made-some s is old width v are refs e w f =
    (λ k. map (pair_table (width k) Th12 (map old.table (e k))) (f k).outputs)
    ∙ (λ k. map (pair_table (length s.inputs) Th12 (are.shown.tables k)) v.wiring.outputs)
    ∙ data-tables s v.wiring.order are.wired.order is v.wiring are.wired Base

made-fronts : (order : List ℕ) (s : StageData) → IsOrderOf (length s.inputs) order → (now : SpaceData) → now.width ≡ length s.inputs → (refs : List Ref) → map now.table refs ≡ some_tables order s → front_tables now.width (map now.table refs) ≡ fronts_of order s
made-fronts order s ordered now width refs shown = (λ k. front_tables (width k) (shown k)) ∙ front-tables s order ordered (values_at s Base)

made-both : (s : StageData) → IsStage s → (old now : SpaceData) → Keeps old now → old.width ≡ length s.inputs → (v : ValuesData) → AreValues old s Base v → (refs : List Ref) → refs ≡ v.refs → (outputs : List (ℕ × ℕ)) → outputs ≡ v.wiring.outputs → map (pair_table now.width Th22 (map now.table refs)) outputs ≡ both_tables v.wiring.order s
made-both s is old now kept width v are refs e outputs f =
    (λ k. map (pair_table ((kept.width ∙ width) k) Th22 (map now.table (e k))) (f k))
    ∙ (λ k. map (pair_table (length s.inputs) Th22 ((tables-kept old now kept v.refs are.shown.live ∙ are.shown.tables) k)) v.wiring.outputs)
    ∙ illegal-tables s v.wiring.order are.wired.order is v.wiring are.wired Base

-- ---- what is made in turn, by the tables of the stage
module _ (s : StageData) (is : IsStage s) (old : SpaceData) (space : IsSpace old) (width : old.width ≡ length s.inputs) (v : ValuesData) (are : AreValues old s Base v) where
  abbrev nets : List (List Bool)
  nets = net_tables_by v.wiring.order s Base

  abbrev some : List (List Bool)
  some = some_tables v.wiring.order s

  abbrev fronts : List (List Bool)
  fronts = fronts_of v.wiring.order s

  abbrev both : List (List Bool)
  both = both_tables v.wiring.order s

  whole-over : fits old ((nets ++ some) ++ fronts) ≡ false → fits old (tables_by v.wiring.order s Base) ≡ false
  whole-over full = ap (fits old) (base-parts v.wiring.order s) ∙ too_much_by_front old ((nets ++ some) ++ fronts) both full

  some-over : fits old some ≡ false → fits old (tables_by v.wiring.order s Base) ≡ false
  some-over full = whole-over (too_much_by_front old (nets ++ some) fronts (too_much-after old old nets some (keeps_all old space) (nets-held old space s v are) full))

  module _ (mid : SpaceData) (kept : Keeps old mid) (firsts : List Ref) (first : MakesAll old mid firsts some) where
    first-held : mid.held ≡ with_tables old (nets ++ some)
    first-held = held-along old old mid nets some (keeps_all old space) (nets-held old space s v are) first.held

    fronts-over : fits mid fronts ≡ false → fits old (tables_by v.wiring.order s Base) ≡ false
    fronts-over full = whole-over (too_much-after old mid (nets ++ some) fronts kept first-held full)

    module _ (now : SpaceData) (kept_too : Keeps mid now) (seconds : List Ref) (second : MakesAll mid now seconds fronts) where
      second-kept : Keeps old now
      second-kept = keeps_along old mid now kept kept_too

      second-held : now.held ≡ with_tables old ((nets ++ some) ++ fronts)
      second-held = held-along old mid now (nets ++ some) fronts kept first-held second.held

      both-over : fits now both ≡ false → fits old (tables_by v.wiring.order s Base) ≡ false
      both-over full = ap (fits old) (base-parts v.wiring.order s) ∙ too_much-after old now ((nets ++ some) ++ fronts) both second-kept second-held full

      module _ (new : SpaceData) (last : Keeps now new) (thirds : List Ref) (third : MakesAll now new thirds both) where
        some-there : HaveTables new firsts some
        some-there = have-kept mid new firsts some (keeps_along mid now new kept_too last) first.refs_of

        all-named : All (IsNamed new) (tables_by v.wiring.order s Base)
        all-named =
            subst (All (IsNamed new)) (sym (base-parts v.wiring.order s))
            (All-append (IsNamed new) ((nets ++ some) ++ fronts) both
            (All-append (IsNamed new) (nets ++ some) fronts
            (All-append (IsNamed new) nets some
            (named-all new v.refs nets (have-kept old new v.refs nets (keeps_along old now new second-kept last) are.shown)) (named-all new firsts some some-there))
            (named-all new seconds fronts (have-kept now new seconds fronts last second.refs_of)))
            (named-all new thirds both third.refs_of))

        all-held : new.held ≡ with_tables old (tables_by v.wiring.order s Base)
        all-held = held-along old now new ((nets ++ some) ++ fronts) both second-kept second-held third.held ∙ ap (with_tables old) (sym (base-parts v.wiring.order s))

pub data_tables-requires-clause-within : goal.data_tables-requires-clause-within
data_tables-requires-clause-within g c =
    let s : StageData = c.args.stage.now in
    let v : ValuesData = c.args.base.now in
    subst (λ refs. All (λ pair. (pair.0 < length refs) × (pair.1 < length refs)) c.wiring.result.now.outputs) (sym c.refs.ensures.refs)
    (subst (λ (w : WiringData). All (λ pair. (pair.0 < length v.refs) × (pair.1 < length v.refs)) w.outputs) (sym c.wiring.ensures) (within s c.facts.ensures (g.P.Space.meaning c.args.space.now) v c.requires))

pub returns-in_err-some-clause-full : goal.returns-in_err-some-clause-full
returns-in_err-some-clause-full g c = λ e.
    let old : SpaceData = g.P.Space.meaning c.args.space.now in
    some-over c.args.stage.now c.facts.ensures old c.facts-2.ensures (values-width (g.P.Space.meaning c.args.space.now) c.args.stage.now Base c.args.base.now c.facts-2.ensures c.facts.ensures c.requires) c.args.base.now c.requires
    (subst (λ tables. fits old tables ≡ false) (made-some c.args.stage.now c.facts.ensures old (values-width (g.P.Space.meaning c.args.space.now) c.args.stage.now Base c.args.base.now c.facts-2.ensures c.facts.ensures c.requires) c.args.base.now c.requires c.refs.result.now c.refs.ensures.refs c.wiring.result.now c.wiring.ensures)
    (c.in_err-some.ensures.full (ap Err (handed_on c.from_residual.result c.in_err-some.field-0.0 c.from_residual.ensures.1 e))))

pub returns-in_err-data_fronts-clause-full : goal.returns-in_err-data_fronts-clause-full
returns-in_err-data_fronts-clause-full g c = λ e.
    let old : SpaceData = g.P.Space.meaning c.args.space.now in
    let mid : SpaceData = g.P.Space.meaning c.data_tables.new.space in
    let first = subst (MakesAll old mid c.in_ok-some.some.items) (made-some c.args.stage.now c.facts.ensures old (values-width (g.P.Space.meaning c.args.space.now) c.args.stage.now Base c.args.base.now c.facts-2.ensures c.facts.ensures c.requires) c.args.base.now c.requires c.refs.result.now c.refs.ensures.refs c.wiring.result.now c.wiring.ensures) c.in_ok-some.ensures.made in
    fronts-over c.args.stage.now c.facts.ensures old c.facts-2.ensures (values-width (g.P.Space.meaning c.args.space.now) c.args.stage.now Base c.args.base.now c.facts-2.ensures c.facts.ensures c.requires) c.args.base.now c.requires mid c.in_ok-some.ensures.kept c.in_ok-some.some.items first
    (subst (λ tables. fits mid tables ≡ false) (made-fronts c.args.base.now.wiring.order c.args.stage.now c.requires.wired.order mid (c.in_ok-some.ensures.kept.width ∙ (values-width (g.P.Space.meaning c.args.space.now) c.args.stage.now Base c.args.base.now c.facts-2.ensures c.facts.ensures c.requires)) c.as_slice.result.now (ap (map mid.table) c.as_slice.ensures.value ∙ first.refs_of.tables))
    (c.in_err-data_fronts.ensures.full (ap Err (handed_on c.from_residual-in_err-data_fronts.result c.in_err-data_fronts.field-0.0 c.from_residual-in_err-data_fronts.ensures.1 e))))

pub pair_refs-requires-clause-within : goal.pair_refs-requires-clause-within
pair_refs-requires-clause-within g c =
    let s : StageData = c.args.stage.now in
    let v : ValuesData = c.args.base.now in
    subst (λ refs. All (λ pair. (pair.0 < length refs) × (pair.1 < length refs)) c.outputs.result.now) (sym c.refs-2.ensures.refs)
    (subst (All (λ pair. (pair.0 < length v.refs) × (pair.1 < length v.refs))) (sym (c.outputs.ensures ∙ ap (λ (w : WiringData). w.outputs) c.wiring-2.ensures)) (within s c.facts.ensures (g.P.Space.meaning c.args.space.now) v c.requires))

pub returns-in_err-both-clause-full : goal.returns-in_err-both-clause-full
returns-in_err-both-clause-full g c = λ e.
    let old : SpaceData = g.P.Space.meaning c.args.space.now in
    let mid : SpaceData = g.P.Space.meaning c.data_tables.new.space in
    let now : SpaceData = g.P.Space.meaning c.data_fronts.new.space in
    let first = subst (MakesAll old mid c.in_ok-some.some.items) (made-some c.args.stage.now c.facts.ensures old (values-width (g.P.Space.meaning c.args.space.now) c.args.stage.now Base c.args.base.now c.facts-2.ensures c.facts.ensures c.requires) c.args.base.now c.requires c.refs.result.now c.refs.ensures.refs c.wiring.result.now c.wiring.ensures) c.in_ok-some.ensures.made in
    let second = subst (MakesAll mid now c.in_ok-data_fronts.field-0.items) (made-fronts c.args.base.now.wiring.order c.args.stage.now c.requires.wired.order mid (c.in_ok-some.ensures.kept.width ∙ (values-width (g.P.Space.meaning c.args.space.now) c.args.stage.now Base c.args.base.now c.facts-2.ensures c.facts.ensures c.requires)) c.as_slice.result.now (ap (map mid.table) c.as_slice.ensures.value ∙ first.refs_of.tables)) c.in_ok-data_fronts.ensures.made in
    both-over c.args.stage.now c.facts.ensures old c.facts-2.ensures (values-width (g.P.Space.meaning c.args.space.now) c.args.stage.now Base c.args.base.now c.facts-2.ensures c.facts.ensures c.requires) c.args.base.now c.requires mid c.in_ok-some.ensures.kept c.in_ok-some.some.items first now c.in_ok-data_fronts.ensures.kept c.in_ok-data_fronts.field-0.items second
    (subst (λ tables. fits now tables ≡ false) (made-both c.args.stage.now c.facts.ensures old now (keeps_along old mid now c.in_ok-some.ensures.kept c.in_ok-data_fronts.ensures.kept) (values-width (g.P.Space.meaning c.args.space.now) c.args.stage.now Base c.args.base.now c.facts-2.ensures c.facts.ensures c.requires) c.args.base.now c.requires c.refs-2.result.now c.refs-2.ensures.refs c.outputs.result.now (c.outputs.ensures ∙ ap (λ (w : WiringData). w.outputs) c.wiring-2.ensures))
    (c.in_err-both.ensures.full (ap Err (handed_on c.from_residual-in_err-both.result c.in_err-both.field-0.0 c.from_residual-in_err-both.ensures.1 e))))

pub returns : goal.returns
returns g c =
    let old : SpaceData = g.P.Space.meaning c.args.space.now in
    let mid : SpaceData = g.P.Space.meaning c.data_tables.new.space in
    let now : SpaceData = g.P.Space.meaning c.data_fronts.new.space in
    let new : SpaceData = g.P.Space.meaning c.pair_refs.new.space in
    let first = subst (MakesAll old mid c.in_ok-some.some.items) (made-some c.args.stage.now c.facts.ensures old (values-width (g.P.Space.meaning c.args.space.now) c.args.stage.now Base c.args.base.now c.facts-2.ensures c.facts.ensures c.requires) c.args.base.now c.requires c.refs.result.now c.refs.ensures.refs c.wiring.result.now c.wiring.ensures) c.in_ok-some.ensures.made in
    let second = subst (MakesAll mid now c.in_ok-data_fronts.field-0.items) (made-fronts c.args.base.now.wiring.order c.args.stage.now c.requires.wired.order mid (c.in_ok-some.ensures.kept.width ∙ (values-width (g.P.Space.meaning c.args.space.now) c.args.stage.now Base c.args.base.now c.facts-2.ensures c.facts.ensures c.requires)) c.as_slice.result.now (ap (map mid.table) c.as_slice.ensures.value ∙ first.refs_of.tables)) c.in_ok-data_fronts.ensures.made in
    let third = subst (MakesAll now new c.in_ok-both.both.items) (made-both c.args.stage.now c.facts.ensures old now (keeps_along old mid now c.in_ok-some.ensures.kept c.in_ok-data_fronts.ensures.kept) (values-width (g.P.Space.meaning c.args.space.now) c.args.stage.now Base c.args.base.now c.facts-2.ensures c.facts.ensures c.requires) c.args.base.now c.requires c.refs-2.result.now c.refs-2.ensures.refs c.outputs.result.now (c.outputs.ensures ∙ ap (λ (w : WiringData). w.outputs) c.wiring-2.ensures)) c.in_ok-both.ensures.made in
    record {
      some = some-there c.args.stage.now c.facts.ensures old c.facts-2.ensures (values-width (g.P.Space.meaning c.args.space.now) c.args.stage.now Base c.args.base.now c.facts-2.ensures c.facts.ensures c.requires) c.args.base.now c.requires mid c.in_ok-some.ensures.kept c.in_ok-some.some.items first now c.in_ok-data_fronts.ensures.kept c.in_ok-data_fronts.field-0.items second new c.in_ok-both.ensures.kept c.in_ok-both.both.items third;
      both = third.refs_of;
      live = all-named c.args.stage.now c.facts.ensures old c.facts-2.ensures (values-width (g.P.Space.meaning c.args.space.now) c.args.stage.now Base c.args.base.now c.facts-2.ensures c.facts.ensures c.requires) c.args.base.now c.requires mid c.in_ok-some.ensures.kept c.in_ok-some.some.items first now c.in_ok-data_fronts.ensures.kept c.in_ok-data_fronts.field-0.items second new c.in_ok-both.ensures.kept c.in_ok-both.both.items third;
      held = all-held c.args.stage.now c.facts.ensures old c.facts-2.ensures (values-width (g.P.Space.meaning c.args.space.now) c.args.stage.now Base c.args.base.now c.facts-2.ensures c.facts.ensures c.requires) c.args.base.now c.requires mid c.in_ok-some.ensures.kept c.in_ok-some.some.items first now c.in_ok-data_fronts.ensures.kept c.in_ok-data_fronts.field-0.items second new c.in_ok-both.ensures.kept c.in_ok-both.both.items third;
      kept = search rules;
      full = search rules;
    }
