use Rattle.ncl_reader.proofs.Ports.{◌∷◌, [], ◌++◌, cond, Some, None, ap, ◌∙◌, map, map_push, Contains-append_left, btree_map_updates_str, bytes_eq, differ_more, name_more}
use Rattle.ncl_reader.proofs.header.Header.add.Goals as goal

pub returns : goal.returns
returns c = λ names said is new.
    let x = c.args.name.now in
    record {
      in_order = ap (map (λ name. name.now)) c.in_ok-push.ensures.items ∙ map_push (λ name. name.now) c.args.self.now.names.items c.args.name ∙ ap (λ l. l ++ x ∷ []) is.in_order;
      differ = differ_more names x is.differ new;
      known = λ y found. Contains-append_left names (x ∷ []) y (is.known y found);
      by_name = λ y.
          btree_map_updates_str x c.args.self.now.ways c.insert.new.self _ c.in-Ok.ensures.updates y
          ∙ ap (λ w. cond (bytes_eq x y) (Some None) w) (is.by_name y)
          ∙ name_more names said x y (λ found. new (is.known x found));
      bits = is.bits;
      few = is.few;
    }
