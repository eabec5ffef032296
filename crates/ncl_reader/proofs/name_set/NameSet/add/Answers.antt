use Rattle.ncl_reader.proofs.Among.{◌||◌, map, ap, ◌∙◌, is_some, get_by, slice_cmp, nat_cmp, list_any, bytes_eq, waits-more, one-waits}
use Rattle.ncl_reader.proofs.name_set.NameSet.add.Goals as goal

pub returns : goal.returns
returns c = λ x.
    let sorted = is_some (get_by (λ key. slice_cmp nat_cmp x key.now) c.args.self.now.sorted) in
    let waiting = c.args.self.now.waiting.items in
    ap (λ names. sorted || list_any (bytes_eq x) (map (λ y. y.now) names)) c.in_ok-push.ensures.items
    ∙ ap (λ b. sorted || b) (waits-more x waiting c.args.name)
    ∙ one-waits sorted (list_any (bytes_eq x) (map (λ y. y.now) waiting)) (bytes_eq c.args.name.now x)
