use Rattle.std.proofs.lemmas.List.{get_or-map, length-map, map-set}
use Rattle.ncl_base.proofs.Terms.{[], ap, arith, length, map, put_into, set, sym, ◌++◌, ◌<◌, ◌∙◌, ◌∷◌}
use Rattle.ncl_base.proofs.list_table.ListTable.put.Goals as goal

pub returns : goal.returns
returns g c =
    let lists = c.self.inside.lists.items in
    let size : c.args.place < length lists = omega (arith, c.requires, ap length c.self.view_is, length-map lists (λ l. l.items)) in
    let was = get_or-map (λ l. l.items) lists c.args.place c.index_mut.result.now [] size in
    let grown = c.in_ok-push.ensures.items ∙ ap (λ l. l ++ c.args.item ∷ []) (ap (λ l. l.items) c.index_mut.ensures.value ∙ sym was) in
    sym (ap (λ lists. put_into lists c.args.place c.args.item) (sym c.self.view_is) ∙ sym (map-set (λ l. l.items) lists c.args.place c.push.new.self ∙ ap (set (map (λ l. l.items) lists) c.args.place) grown))
