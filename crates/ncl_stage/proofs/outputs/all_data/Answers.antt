use Rattle.ncl_stage.proofs.Terms.{Base, Bool, Bor, Err, HaveTables, IsOrderOf, IsStage, IsWiring, Keeps, List, MakesAll, Rails, Ref, SpaceData, StageData, Th12, Variant, WiringData, [], ap, arith, data_fronts, data_functions, false, fits, front_tables, fronts, function_tables_by, get_or, handed_on, has_data, have-at, have-length, held-along, keeps_along, length, length-map, list_all, map, net_table_by, net_tables_by, nets_of, option_map, pair_table, rules, subst, sym, table_of, too_much-after, too_much_by_front, unwrap_or, val, with_tables, words_by, ℕ, ◌++◌, ◌-◌, ◌∙◌, ◌≡◌}
use Rattle.ncl_stage.proofs.OutputLaws.{values_at, outputs-within, data-tables, front-tables, shared-tables, last-front, length-fronts}
use Rattle.ncl_stage.proofs.ChangedLaws.{values-width}
use Rattle.ncl_stage.proofs.outputs.all_data.Goals as goal

-- the DATA tables, as a space makes them of the Refs of the nets
of_data : (s : StageData) (order : List ℕ) → IsOrderOf (length s.inputs) order → IsStage s → (w : WiringData) → IsWiring s w → (variant : Variant) (now : SpaceData) → now.width ≡ length s.inputs → (refs : List Ref) → map now.table refs ≡ net_tables_by order s variant → map (pair_table now.width Th12 (map now.table refs)) w.outputs ≡ function_tables_by order (data_functions s (values_at s variant))
of_data s order ordered is w wired variant now width refs shown = (λ k. map (pair_table (width k) Th12 (shown k)) w.outputs) ∙ data-tables s order ordered is w wired variant

of_fronts : (s : StageData) (order : List ℕ) → IsOrderOf (length s.inputs) order → (variant : Variant) (now : SpaceData) → now.width ≡ length s.inputs → (refs : List Ref) → map now.table refs ≡ function_tables_by order (data_functions s (values_at s variant)) → front_tables now.width (map now.table refs) ≡ function_tables_by order (data_fronts s (values_at s variant))
of_fronts s order ordered variant now width refs shown = (λ k. front_tables (width k) (shown k)) ∙ front-tables s order ordered (values_at s variant)

-- what a space has that made the functions of the nets and then of the DATA of the outputs, and what it is asked for next
record Data (s : StageData) (order : List ℕ) (variant : Variant) (old now : SpaceData) (refs : List Ref) : Type 0 where
  kept : Keeps old now
  held : now.held ≡ with_tables old (net_tables_by order s variant ++ function_tables_by order (data_functions s (values_at s variant)))
  next : front_tables now.width (map now.table refs) ≡ function_tables_by order (data_fronts s (values_at s variant))

data-made : (s : StageData) (order : List ℕ) → IsOrderOf (length s.inputs) order → IsStage s → (w : WiringData) → IsWiring s w → (variant : Variant) (old mid now : SpaceData) → old.width ≡ length s.inputs → (nets read some refs : List Ref) → Keeps old mid → MakesAll old mid nets (net_tables_by order s variant) → read ≡ nets → Keeps mid now → MakesAll mid now some (map (pair_table mid.width Th12 (map mid.table read)) w.outputs) → refs ≡ some → Data s order variant old now refs
data-made s order ordered is w wired variant old mid now width nets read some refs kept made first kept_too made_too second =
    let own : List (List Bool) = function_tables_by order (data_functions s (values_at s variant)) in
    let tables : map (pair_table mid.width Th12 (map mid.table read)) w.outputs ≡ own = of_data s order ordered is w wired variant mid (kept.width ∙ width) read (ap (map mid.table) first ∙ made.refs_of.tables) in
    record {
      kept = keeps_along old mid now kept kept_too;
      held = held-along old mid now (net_tables_by order s variant) own kept made.held (made_too.held ∙ ap (with_tables mid) tables);
      next = of_fronts s order ordered variant now (kept_too.width ∙ kept.width ∙ width) refs (ap (map now.table) second ∙ made_too.refs_of.tables ∙ tables);
    }

pub returns-in_err-refs-clause-full : goal.returns-in_err-refs-clause-full
returns-in_err-refs-clause-full g c = λ e.
    let s : StageData = c.args.stage.now in
    let old : SpaceData = g.P.Space.meaning c.args.space.now in
    let own : List (List Bool) = function_tables_by c.args.base.now.wiring.order (data_functions s (values_at s c.args.variant)) in
    let fronts : List (List Bool) = function_tables_by c.args.base.now.wiring.order (data_fronts s (values_at s c.args.variant)) in
    subst (λ tables. fits old tables ≡ false) (sym (shared-tables s c.args.base.now.wiring.order c.args.variant))
    (too_much_by_front old (net_tables_by c.args.base.now.wiring.order s c.args.variant ++ own) fronts
    (too_much_by_front old (net_tables_by c.args.base.now.wiring.order s c.args.variant) own
    (c.in_err-refs.ensures.full (ap Err (handed_on c.from_residual.result c.in_err-refs.field-0.0 c.from_residual.ensures.1 e)))))

pub data_tables-requires-clause-within : goal.data_tables-requires-clause-within
data_tables-requires-clause-within g c =
    let s : StageData = c.args.stage.now in
    let refs = c.in_ok-refs.refs.items in
    let many : length refs ≡ length (nets_of s.inputs s.cells) = have-length (g.P.Space.meaning c.net_refs_from.new.space) refs (net_tables_by c.args.base.now.wiring.order s c.args.variant) c.in_ok-refs.ensures.made.refs_of ∙ length-map (nets_of s.inputs s.cells) (net_table_by c.args.base.now.wiring.order s c.args.variant) in
    outputs-within s c.facts.ensures c.wiring.result.now (subst (IsWiring s) (sym c.wiring.ensures) c.requires.wired) (length c.as_slice.result.now) (ap length c.as_slice.ensures.value ∙ many)

pub returns-in_err-data-clause-full : goal.returns-in_err-data-clause-full
returns-in_err-data-clause-full g c = λ e.
    let s : StageData = c.args.stage.now in
    let variant = c.args.variant in
    let old : SpaceData = g.P.Space.meaning c.args.space.now in
    let mid : SpaceData = g.P.Space.meaning c.net_refs_from.new.space in
    let own : List (List Bool) = function_tables_by c.args.base.now.wiring.order (data_functions s (values_at s variant)) in
    let fronts : List (List Bool) = function_tables_by c.args.base.now.wiring.order (data_fronts s (values_at s variant)) in
    let is = of_data s c.args.base.now.wiring.order c.requires.wired.order c.facts.ensures c.wiring.result.now (subst (IsWiring s) (sym c.wiring.ensures) c.requires.wired) variant mid (c.in_ok-refs.ensures.kept.width ∙ (values-width (g.P.Space.meaning c.args.space.now) c.args.stage.now Base c.args.base.now c.facts-2.ensures c.facts.ensures c.requires)) c.as_slice.result.now (ap (map mid.table) c.as_slice.ensures.value ∙ c.in_ok-refs.ensures.made.refs_of.tables) in
    subst (λ tables. fits old tables ≡ false) (sym (shared-tables s c.args.base.now.wiring.order variant))
    (too_much_by_front old (net_tables_by c.args.base.now.wiring.order s variant ++ own) fronts
    (too_much-after old mid (net_tables_by c.args.base.now.wiring.order s variant) own c.in_ok-refs.ensures.kept c.in_ok-refs.ensures.made.held
    (subst (λ tables. fits mid tables ≡ false) is
    (c.in_err-data.ensures.full (ap Err (handed_on c.from_residual-in_err-data.result c.in_err-data.field-0.0 c.from_residual-in_err-data.ensures.1 e))))))

pub returns-in_err-fronts-clause-full : goal.returns-in_err-fronts-clause-full
returns-in_err-fronts-clause-full g c = λ e.
    let old : SpaceData = g.P.Space.meaning c.args.space.now in
    let now : SpaceData = g.P.Space.meaning c.data_tables.new.space in
    let made = data-made c.args.stage.now c.args.base.now.wiring.order c.requires.wired.order c.facts.ensures c.wiring.result.now (subst (IsWiring c.args.stage.now) (sym c.wiring.ensures) c.requires.wired) c.args.variant (g.P.Space.meaning c.args.space.now) (g.P.Space.meaning c.net_refs_from.new.space) (g.P.Space.meaning c.data_tables.new.space) (values-width (g.P.Space.meaning c.args.space.now) c.args.stage.now Base c.args.base.now c.facts-2.ensures c.facts.ensures c.requires) c.in_ok-refs.refs.items c.as_slice.result.now c.in_ok-data.data.items c.as_slice-2.result.now c.in_ok-refs.ensures.kept c.in_ok-refs.ensures.made c.as_slice.ensures.value c.in_ok-data.ensures.kept c.in_ok-data.ensures.made c.as_slice-2.ensures.value in
    subst (λ tables. fits old tables ≡ false) (sym (shared-tables c.args.stage.now c.args.base.now.wiring.order c.args.variant))
    (too_much-after old now _ _ made.kept made.held
    (subst (λ tables. fits now tables ≡ false) made.next
    (c.in_err-fronts.ensures.full (ap Err (handed_on c.from_residual-in_err-fronts.result c.in_err-fronts.field-0.0 c.from_residual-in_err-fronts.ensures.1 e)))))

-- how many conjunctions there are
many-fronts : (s : StageData) (order : List ℕ) (variant : Variant) (new : SpaceData) (refs : List Ref) → HaveTables new refs (function_tables_by order (data_fronts s (values_at s variant))) → length refs ≡ length s.outputs
many-fronts s order variant new refs have =
    have-length new refs (function_tables_by order (data_fronts s (values_at s variant))) have
    ∙ length-map (data_fronts s (values_at s variant)) (table_of (words_by order))
    ∙ length-map (fronts s.outputs) (λ (front : List Rails). λ word. list_all (has_data (val s word variant)) front)
    ∙ length-fronts s.outputs

pub unwrap-requires : goal.unwrap-requires
unwrap-requires g c =
    let new : SpaceData = g.P.Space.meaning c.data_fronts.new.space in
    let made = data-made c.args.stage.now c.args.base.now.wiring.order c.requires.wired.order c.facts.ensures c.wiring.result.now (subst (IsWiring c.args.stage.now) (sym c.wiring.ensures) c.requires.wired) c.args.variant (g.P.Space.meaning c.args.space.now) (g.P.Space.meaning c.net_refs_from.new.space) (g.P.Space.meaning c.data_tables.new.space) (values-width (g.P.Space.meaning c.args.space.now) c.args.stage.now Base c.args.base.now c.facts-2.ensures c.facts.ensures c.requires) c.in_ok-refs.refs.items c.as_slice.result.now c.in_ok-data.data.items c.as_slice-2.result.now c.in_ok-refs.ensures.kept c.in_ok-refs.ensures.made c.as_slice.ensures.value c.in_ok-data.ensures.kept c.in_ok-data.ensures.made c.as_slice-2.ensures.value in
    let many = many-fronts c.args.stage.now c.args.base.now.wiring.order c.args.variant new c.in_ok-fronts.fronts.items (subst (HaveTables new c.in_ok-fronts.fronts.items) made.next c.in_ok-fronts.ensures.made.refs_of) in
    let some = c.facts.ensures.some_outputs in
    let size : length c.as_slice-3.result.now ≡ length c.args.stage.now.outputs = ap length c.as_slice-3.ensures.value ∙ many in
    c.last.ensures.item.2 (omega arith)

pub returns : goal.returns
returns g c =
    let s : StageData = c.args.stage.now in
    let order : List ℕ = c.args.base.now.wiring.order in
    let old : SpaceData = g.P.Space.meaning c.args.space.now in
    let now : SpaceData = g.P.Space.meaning c.data_tables.new.space in
    let new : SpaceData = g.P.Space.meaning c.data_fronts.new.space in
    let tables : List (List Bool) = function_tables_by order (data_fronts s (values_at s c.args.variant)) in
    let made = data-made c.args.stage.now c.args.base.now.wiring.order c.requires.wired.order c.facts.ensures c.wiring.result.now (subst (IsWiring c.args.stage.now) (sym c.wiring.ensures) c.requires.wired) c.args.variant (g.P.Space.meaning c.args.space.now) (g.P.Space.meaning c.net_refs_from.new.space) (g.P.Space.meaning c.data_tables.new.space) (values-width (g.P.Space.meaning c.args.space.now) c.args.stage.now Base c.args.base.now c.facts-2.ensures c.facts.ensures c.requires) c.in_ok-refs.refs.items c.as_slice.result.now c.in_ok-data.data.items c.as_slice-2.result.now c.in_ok-refs.ensures.kept c.in_ok-refs.ensures.made c.as_slice.ensures.value c.in_ok-data.ensures.kept c.in_ok-data.ensures.made c.as_slice-2.ensures.value in
    let refs : List Ref = c.in_ok-fronts.fronts.items in
    let have : HaveTables new refs tables = subst (HaveTables new refs) made.next c.in_ok-fronts.ensures.made.refs_of in
    let many : length refs ≡ length s.outputs = many-fronts s order c.args.variant new refs have in
    let some = c.facts.ensures.some_outputs in
    let items : c.as_slice-3.result.now ≡ refs = c.as_slice-3.ensures.value in
    let k : ℕ = length s.outputs - 1 in
    let r : Ref = c.unwrap.result.now in
    let item : unwrap_or (option_map (λ (x : Bor Ref). x.now) c.last.result) r ≡ get_or c.as_slice-3.result.now (length c.as_slice-3.result.now - 1) r = c.last.ensures.item.4 (omega arith) r in
    let at : r ≡ get_or refs k r =
    ap (λ o. unwrap_or (option_map (λ (x : Bor Ref). x.now) o) r) (sym c.unwrap.ensures) ∙ item ∙ (λ j. get_or (items j) (length (items j) - 1) r) ∙ ap (λ n. get_or refs (n - 1) r) many in
    record {
      live = search rules;
      table = ap new.table at ∙ have-at new refs tables have k r [] (omega arith) ∙ last-front s order c.requires.wired.order (values_at s c.args.variant) some;
      held = held-along old now new _ tables made.kept made.held (c.in_ok-fronts.ensures.made.held ∙ ap (with_tables now) made.next)
          ∙ ap (with_tables old) (sym (shared-tables s order c.args.variant));
      kept = search rules;
      full = search rules;
    }

pub returns-in_err-data-clause-kept : goal.returns-in_err-data-clause-kept
returns-in_err-data-clause-kept g c =
    keeps_along (g.P.Space.meaning c.args.space.now) (g.P.Space.meaning c.net_refs_from.new.space) (g.P.Space.meaning c.data_tables.new.space) c.in_ok-refs.ensures.kept c.in_err-data.ensures.kept

pub returns-in_err-fronts-clause-kept : goal.returns-in_err-fronts-clause-kept
returns-in_err-fronts-clause-kept g c =
    let mid : SpaceData = g.P.Space.meaning c.data_tables.new.space in
    keeps_along (g.P.Space.meaning c.args.space.now) mid (g.P.Space.meaning c.data_fronts.new.space)
    (keeps_along (g.P.Space.meaning c.args.space.now) (g.P.Space.meaning c.net_refs_from.new.space) mid c.in_ok-refs.ensures.kept c.in_ok-data.ensures.kept) c.in_err-fronts.ensures.kept
