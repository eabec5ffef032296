use Rattle.ncl_cell_rules.proofs.Terms.{All, All-push, IsDrivenBefore, OnTrue_at, subst, sym, take_all, take_more}
use Rattle.ncl_cell_rules.proofs.PinNumbers.{no_net}
use Rattle.ncl_cell_rules.proofs.standing.are_before.Goals as goal

pub loop-net-preserved : goal.loop-net-preserved
loop-net-preserved c =
    let before = IsDrivenBefore c.args.drivers.now c.args.place in
    subst (All before) (sym (take_more c.args.nets.now c.loop-net.net-index no_net c.loop-net-test.true))
    (All-push before _ _ c.loop-net.invariant (OnTrue_at c.if-not-is_before.false c.is_before.ensures))

pub returns : goal.returns
returns c = subst (All (IsDrivenBefore c.args.drivers.now c.args.place)) (take_all c.loop-net.net-index c.args.nets.now c.loop-net-test.false) c.loop-net.invariant
