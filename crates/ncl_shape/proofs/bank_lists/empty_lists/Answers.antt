use Rattle.ncl_shape.proofs.Terms.{[], ap, arith, map, map_push, replicate, replicate_more, ◌++◌, ◌∙◌, ◌∷◌}
use Rattle.ncl_shape.proofs.bank_lists.empty_lists.Goals as goal

pub loop-init : goal.loop-init
loop-init g c = ap (map (λ l. l.items)) c.in_ok-lists.ensures.items

pub loop-preserved : goal.loop-preserved
loop-preserved g c =
    ap (map (λ l. l.items)) c.in_ok-push.ensures.items ∙ map_push (λ l. l.items) c.loop.lists.items c.new.result ∙ ap (λ ls. ls ++ c.new.result.items ∷ []) c.loop.invariant
    ∙ ap (λ l. replicate c.loop.counter [] ++ l ∷ []) c.new.ensures.items ∙ replicate_more c.loop.counter []

pub returns : goal.returns
returns g c = c.loop.invariant ∙ ap (λ k. replicate k []) (omega (arith, c.loop-test.false, c.loop.auto.counter-end))
