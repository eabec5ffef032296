use Rattle.std.proofs.Common.{◌≡◌, [], false, length, replicate, rules}
use Rattle.ncl_graph.proofs.Reaching.{walk_begins, walk_goes_on, walk_ends, waiting_inside}
use Rattle.ncl_graph.proofs.reach.reached_from.Goals as goal

pub loop-place-init : goal.loop-place-init
loop-place-init c =
    let made : c.in_ok-vec.field-0.items ≡ replicate (length c.args.graph.now) false = search rules in
    walk_begins _ _ _ _ (rw (made, c.new.ensures.items) at c.in_ok-expand.ensures)

pub expand-requires-in-Some-clause-inside : goal.expand-requires-in-Some-clause-inside
expand-requires-in-Some-clause-inside c = let w = rw c.in-Some.ensures.items at c.loop-place.invariant in waiting_inside _ _ _ _ _ w

pub loop-place-preserved : goal.loop-place-preserved
loop-place-preserved c =
    let w = rw c.in-Some.ensures.items at c.loop-place.invariant in
    walk_goes_on _ _ _ _ _ _ _ w c.in_ok-expand-2.ensures

pub returns-clause-exactly : goal.returns-clause-exactly
returns-clause-exactly c =
    let idle : c.loop-place.walk.waiting.items ≡ [] = search rules in
    λ i. (c.loop-place.invariant.sound i, walk_ends _ _ _ _ c.loop-place.invariant idle i)
