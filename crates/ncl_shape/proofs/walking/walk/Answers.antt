use Rattle.ncl_shape.proofs.Terms.{List, NetId, [], ap, arith, length, net_at, no_entry, refl, subst, sym, ◌++◌, ◌+◌, ◌∙◌, ◌∷◌}
use Rattle.ncl_shape.proofs.BankNets.{follower_within}
use Rattle.ncl_shape.proofs.Followers.{none_follows, one_follows}
use Rattle.ncl_shape.proofs.WalkLaws.{IsWalkSoFar, walk_begins, walk_goes_on, walk_ends, walk_is_long}
use Rattle.ncl_shape.proofs.walking.walk.Goals as goal

pub loop-init : goal.loop-init
loop-init c = subst (λ banks. IsWalkSoFar c.args.netlist.now c.args.first.0 banks c.args.first.0 0) (sym (c.in_ok-push.ensures.items ∙ ap (λ (l : List NetId). l ++ c.args.first ∷ []) c.new-banks.ensures.items)) (walk_begins c.args.netlist.now c.args.first.0 c.args.first refl c.requires.inside)

pub bounds : goal.bounds
bounds c =
    let stands = c.loop.invariant.stands in
    let sized = c.requires.followers.sized in
    omega (arith, stands, sized)

pub returns-in_default-clause-walk : goal.returns-in_default-clause-walk
returns-in_default-clause-walk c =
    walk_ends c.args.netlist.now c.args.first.0 c.loop.banks.items c.loop.last.0 c.loop.counter c.loop.invariant
    (none_follows c.args.netlist.now c.args.followers.now c.requires.followers c.loop.last.0 c.loop.invariant.stands (no_entry (net_at c.args.followers.now c.loop.last.0) c.in_default.not-Some))

pub returns-in_default-clause-inside : goal.returns-in_default-clause-inside
returns-in_default-clause-inside c = c.loop.invariant.inside

pub returns-in_default-clause-short : goal.returns-in_default-clause-short
returns-in_default-clause-short c =
    let long = c.loop.invariant.long in
    let all = ap length c.nets-end.ensures.nets in
    omega (arith, long, all, c.loop-test.true)

pub loop-preserved : goal.loop-preserved
loop-preserved c =
    let n = c.args.netlist.now in
    let follows = one_follows n c.args.followers.now c.requires.followers c.loop.last.0 c.loop.invariant.stands c.in-Some.next c.in-Some.is in
    subst (λ banks. IsWalkSoFar n c.args.first.0 banks c.in-Some.next.0 (c.loop.counter + 1)) (sym c.in_ok-push-2.ensures.items)
    (walk_goes_on n c.args.first.0 c.loop.banks.items c.loop.last.0 c.loop.counter c.in-Some.next c.loop.invariant follows (follower_within n c.nets-end.ensures.netlist c.loop.last.0 c.in-Some.next.0 follows))

pub returns-clause-walk : goal.returns-clause-walk
returns-clause-walk c =
    let all = ap length c.nets-end.ensures.nets in
    walk_is_long c.args.netlist.now c.args.first.0 c.loop.banks.items c.loop.last.0 c.loop.counter c.loop.invariant (omega (arith, all, c.loop-test.false))

pub returns-clause-inside : goal.returns-clause-inside
returns-clause-inside c = c.loop.invariant.inside

pub returns-clause-short : goal.returns-clause-short
returns-clause-short c =
    let long = c.loop.invariant.long in
    let all = ap length c.nets-end.ensures.nets in
    let few = c.loop.auto.counter-end in
    omega (arith, long, all, few)
