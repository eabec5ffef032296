use Rattle.ncl_hazard.proofs.Terms.{Fire, meaning}
use Rattle.ncl_hazard.proofs.Tries.{tried-next, happened-next}
use Rattle.ncl_hazard.proofs.trying.try_items.Goals as goal

pub loop-item-preserved : goal.loop-item-preserved
loop-item-preserved c =
    let p = c.args.pipeline.now in
    let start = meaning c.args.state.now in
    let k = c.loop-item.item-index in
    let items = c.args.items.now in
    let now = c.loop-item.invariant in (
      c.in_ok-attempt.ensures.made,
      tried-next p start (meaning c.loop-item.state) (meaning c.attempt.new.state) items k (Fire (record { 0 = 0 })) c.loop-item-test.true now.1 c.in_ok-attempt.ensures.turned,
      happened-next p start (meaning c.loop-item.state) items c.args.run.now.items c.loop-item.run.items c.attempt.new.run.items k (Fire (record { 0 = 0 })) c.loop-item-test.true now.1 now.2 c.in_ok-attempt.ensures.run,
    )
