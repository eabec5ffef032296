use Rattle.ncl_netlist.proofs.Terms.{AllDiffer, Some, [], ap, length, list_any, map, map_more, option_map, refl, same_name, slice_get, slice_get-map, slice_get_read, subst, sym, take, take-map, true, ◌++◌, ◌∙◌, ◌∷◌, ◌≡◌}
use Rattle.ncl_netlist.proofs.NameLists.{any-now, insert_key-now, AllDiffer-insert_all, AllDiffer-once_each}
use Rattle.ncl_netlist.proofs.Steps.{Seen, repeats_first, Seen-more, not_false, not_true}
use Rattle.ncl_netlist.proofs.cell_rules.repeated_by.Goals as goal

pub loop-cell-init : goal.loop-cell-init
loop-cell-init c =
    let none : map (λ key. key.now) c.args.seen.now.keys ≡ [] = ap (map (λ key. key.now)) c.requires in
    record { all = none; differ = subst AllDiffer (sym none) (AllDiffer-once_each []) }

pub returns-then-not-added : goal.returns-then-not-added
returns-then-not-added c =
    let i = c.loop-cell.cell-index in
    let cell = c.cell-item.result in
    let cells = c.args.cells.now in
    let names = map (λ p. p.name) cells in
    let keys = c.loop-cell.seen.keys in
    let seen : map (λ key. key.now) keys ≡ take i names = c.loop-cell.invariant.all ∙ sym (take-map (λ p. p.name) i cells) in
    let at : slice_get names i ≡ Some cell.name =
    slice_get-map (λ p. p.name) cells i ∙ ap (option_map (λ p. p.name)) (slice_get_read cells (length cells) i cell refl c.loop-cell-test.true c.cell-item.is) in
    let there : list_any (same_name cell.name) (take i names) ≡ true =
    (λ j. list_any (same_name (sym c.bytes.ensures j)) (sym seen j)) ∙ sym (any-now c.bytes.result.now keys) ∙ not_false _ (sym c.if-not-added.true ∙ c.in_ok-added.ensures.added) in
    repeats_first names i cell.name at (subst AllDiffer seen c.loop-cell.invariant.differ) there

pub loop-cell-preserved : goal.loop-cell-preserved
loop-cell-preserved c =
    let i = c.loop-cell.cell-index in
    let cell = c.cell-item.result in
    let cells = c.args.cells.now in
    let keys = c.loop-cell.seen.keys in
    let so_far = map (λ p. p.name) (take i cells) in
    let key = c.bytes.result in
    let name = c.bytes.ensures ∙ ap (λ p. p.name) c.cell-item.is in
    let more = (λ j. so_far ++ name j ∷ []) ∙ sym (map_more (λ p. p.name) cells i cell c.loop-cell-test.true) in
    let inserted = ap (map (λ k. k.now)) c.in_ok-added.ensures.keys ∙ insert_key-now keys key in
    let old = map (λ k. k.now) keys in
    let differ = subst AllDiffer (sym inserted) (AllDiffer-insert_all old (key.now ∷ []) c.loop-cell.invariant.differ) in
    let fresh = sym (any-now key.now keys) ∙ not_true _ (sym c.if-not-added.false ∙ c.in_ok-added.ensures.added) in
    subst (Seen (map (λ k. k.now) c.insert.new.self.keys)) more
    (Seen-more old so_far (map (λ k. k.now) c.insert.new.self.keys) key.now c.loop-cell.invariant inserted fresh differ)
