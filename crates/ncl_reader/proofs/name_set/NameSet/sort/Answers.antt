use Rattle.ncl_reader.proofs.Among.{◌||◌, true, map, sym, ap, ◌∙◌, is_some, get_by, slice_cmp, nat_cmp, list_any, bytes_eq, btree_map_updates_str, waits-more, one-sorted}
use Rattle.ncl_reader.proofs.name_set.NameSet.sort.Goals as goal

pub loop-name-preserved : goal.loop-name-preserved
loop-name-preserved c = λ x.
    let old = c.loop-name.self.sorted in
    let rest = c.pop.new.self.items in
    ap (λ kept. is_some kept || list_any (bytes_eq x) (map (λ y. y.now) rest)) (btree_map_updates_str c.in-Some.name.now old c.insert.new.self _ c.in-Ok.ensures.updates x)
    ∙ one-sorted true (get_by (λ key. slice_cmp nat_cmp x key.now) old) _ (bytes_eq c.in-Some.name.now x)
    ∙ sym (ap (λ b. is_some (get_by (λ key. slice_cmp nat_cmp x key.now) old) || b) (ap (λ names. list_any (bytes_eq x) (map (λ y. y.now) names)) c.in-Some.ensures.items ∙ waits-more x rest c.in-Some.name))
    ∙ c.loop-name.invariant x
