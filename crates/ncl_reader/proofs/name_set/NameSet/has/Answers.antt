use Rattle.ncl_reader.proofs.Among.{◌||◌, map, sym, ap, ◌∙◌, list_any, bytes_eq, any-now}
use Rattle.ncl_reader.proofs.name_set.NameSet.has.Goals as goal

pub returns-else-contains_key : goal.returns-else-contains_key
returns-else-contains_key c =
    let x = c.args.name.now in
    c.contains.ensures.value
    ∙ ap (list_any (λ name. bytes_eq name.now x)) c.deref.ensures.value
    ∙ any-now x c.args.self.now.waiting.items
    ∙ sym (ap (λ b. b || list_any (bytes_eq x) (map (λ y. y.now) c.args.self.now.waiting.items)) (sym c.contains_key.ensures ∙ c.if-contains_key.false))
