use Rattle.ncl_reader.proofs.Among.{sym, ap, ◌∙◌, map, joint_of, all-taken, joint_on, kept-net, net-found, net-more}
use Rattle.ncl_reader.proofs.instance.Instance.join_on.Goals as goal

pub returns-then-eq : goal.returns-then-eq
returns-then-eq c = λ conns are. kept-net c.args.pin.now conns c.args.self.now.joins.items are ∙ net-found c.args.self.now.joins.items c.deref-join-items.result.now c.deref-join-items.ensures.value c.loop-join.join-index _ c.args.pin.now c.loop-join-test.true c.loop-join.invariant (sym c.if-eq.ensures)

pub loop-join-preserved : goal.loop-join-preserved
loop-join-preserved c = net-more c.args.self.now.joins.items c.deref-join-items.result.now c.deref-join-items.ensures.value c.loop-join.join-index _ c.args.pin.now c.loop-join-test.true c.loop-join.invariant (sym c.if-eq.ensures)

pub returns : goal.returns
returns c = λ conns are. kept-net c.args.pin.now conns c.args.self.now.joins.items are ∙ sym (ap (λ l. joint_on (map joint_of l) c.args.pin.now) (all-taken c.args.self.now.joins.items c.deref-join-items.result.now c.deref-join-items.ensures.value c.loop-join.join-index c.loop-join-test.false c.loop-join.auto.join-index-end)) ∙ c.loop-join.invariant
