use Rattle.ncl_network.proofs.Terms.{IsSome, ap, arith, get, map, nat_cmp, subst, sym, take_all, ◌∙◌}
use Rattle.ncl_network.proofs.Walking.{found_more}
use Rattle.ncl_network.proofs.walk.Walk.look_up.Goals as goal

pub unwrap-signal-requires : goal.unwrap-signal-requires
unwrap-signal-requires c =
    subst IsSome (sym (c.copied.ensures ∙ c.get.ensures.value)) (c.requires c.loop-name.name-index 0 (omega arith))

pub loop-name-preserved : goal.loop-name-preserved
loop-name-preserved c =
    found_more (get nat_cmp c.args.self.now.signals) c.args.names.now c.loop-name.name-index c.loop-name.found.items c.push.new.self.items c.unwrap-signal.result (omega arith) c.loop-name.invariant (sym (c.copied.ensures ∙ c.get.ensures.value) ∙ c.unwrap-signal.ensures) c.in_ok-push.ensures.items

pub returns : goal.returns
returns c =
    c.loop-name.invariant ∙ ap (map (get nat_cmp c.args.self.now.signals)) (take_all c.loop-name.name-index c.args.names.now (omega (arith, c.loop-name-test.false)))
