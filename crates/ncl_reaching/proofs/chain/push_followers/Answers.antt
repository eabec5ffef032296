use Rattle.ncl_shape.specs.declared.rails.Rails.{Rails}
use Rattle.ncl_reaching.proofs.PushLaws.{followers-next}
use Rattle.ncl_reaching.proofs.chain.push_followers.Goals as goal

pub loop-bit-preserved : goal.loop-bit-preserved
loop-bit-preserved c =
    let d : Rails = record { zero = record { 0 = 0 }; one = record { 0 = 0 } } in
    followers-next c.args.cells.now.items c.loop-bit.cells.items c.push.new.self.items c.push-in-loop-bit.new.self.items c.args.outputs.now c.args.rails.now c.loop-bit.bit d
    c.follower.result c.follower-in-loop-bit.result c.requires c.loop-bit-test.true c.loop-bit.invariant c.follower.ensures c.in_ok-push.ensures.items c.follower-in-loop-bit.ensures c.in_ok-push-2.ensures.items
