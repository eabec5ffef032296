use Rattle.ncl_shape.proofs.Terms.{[], ap, get_or-map, map, map-set, set, sym, ◌++◌, ◌∙◌, ◌∷◌}
use Rattle.ncl_shape.proofs.bank_lists.put.Goals as goal

pub returns : goal.returns
returns g c =
    let was = get_or-map (λ l. l.items) c.args.lists.now.items c.args.k c.index_mut.result.now [] c.requires in
    let grown = c.in_ok-push.ensures.items ∙ ap (λ l. l ++ c.args.item ∷ []) (ap (λ l. l.items) c.index_mut.ensures.value ∙ sym was) in
    map-set (λ l. l.items) c.args.lists.now.items c.args.k c.push.new.self ∙ ap (set (map (λ l. l.items) c.args.lists.now.items) c.args.k) grown
