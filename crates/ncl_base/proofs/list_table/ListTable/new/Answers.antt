use Rattle.std.proofs.lemmas.List.{replicate_more}
use Rattle.ncl_base.proofs.Terms.{[], ap, arith, map, map_push, replicate, ◌++◌, ◌∙◌, ◌∷◌, ◌≡◌}
use Rattle.ncl_base.proofs.list_table.ListTable.new.Goals as goal

pub loop-preserved : goal.loop-preserved
loop-preserved g c =
    ap (map (λ l. l.items)) c.in_ok-push.ensures.items
    ∙ map_push (λ l. l.items) c.loop.lists.items c.new.result
    ∙ (λ i. c.loop.invariant i ++ c.new.ensures.items i ∷ [])
    ∙ replicate_more c.loop.counter []

pub returns : goal.returns
returns g c =
    let all : c.loop.counter ≡ c.args.places = omega arith in
    c.loop.invariant ∙ (λ i. replicate (all i) [])
