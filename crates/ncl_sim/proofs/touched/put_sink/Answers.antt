use Rattle.ncl_sim.proofs.TouchedLaws.{arith, grows-along, length, no_rails, rails-at, rails-next, ◌+◌, ◌<◌}
use Rattle.ncl_sim.proofs.touched.put_sink.Goals as goal

pub put_number-requires : goal.put_number-requires
put_number-requires c =
    let within = (rails-at c.args.outputs.now c.loop-rails.rails-index no_rails (λ net. net < length c.args.table.now) c.loop-rails-test.true c.requires).0 in
    let grown = c.loop-rails.invariant.0 (c.args.sink + 1) (omega arith) in
    omega (arith, within, grown.size)

pub put_number-requires-in-loop-rails : goal.put_number-requires-in-loop-rails
put_number-requires-in-loop-rails c =
    let within = (rails-at c.args.outputs.now c.loop-rails.rails-index no_rails (λ net. net < length c.args.table.now) c.loop-rails-test.true c.requires).1 in
    let grown = c.loop-rails.invariant.0 (c.args.sink + 1) (omega arith) in
    let more = c.in_ok-put_number.ensures.grows (c.args.sink + 1) (omega arith) in
    omega (arith, within, grown.size, more.size)

pub loop-rails-preserved : goal.loop-rails-preserved
loop-rails-preserved c = (
  λ count few. grows-along count _ _ _ (c.loop-rails.invariant.0 count few) (grows-along count _ _ _ (c.in_ok-put_number.ensures.grows count few) (c.in_ok-put_number-2.ensures.grows count few)),
  rails-next c.loop-rails.table c.put_number-in-loop-rails.new.table c.args.outputs.now c.loop-rails.rails-index c.args.sink _ (c.args.sink + 1) c.loop-rails-test.true
      (grows-along (c.args.sink + 1) _ _ _ (c.in_ok-put_number.ensures.grows (c.args.sink + 1) (omega arith)) (c.in_ok-put_number-2.ensures.grows (c.args.sink + 1) (omega arith)))
      ((c.in_ok-put_number-2.ensures.grows (c.args.sink + 1) (omega arith)).kept _ c.args.sink c.in_ok-put_number.ensures.has) c.in_ok-put_number-2.ensures.has c.loop-rails.invariant.1,
)
