use Rattle.ncl_machine.proofs.Terms.{Rails, ap, length, net_values, take, take_all, ◌<◌, ◌∙◌, ◌≡◌}
use Rattle.std.specs.Prelude.{map}
use Rattle.ncl_machine.proofs.RailPlaces.{zero_at, one_at}
use Rattle.ncl_machine.proofs.levels.pair_of.Goals as goal

pub bounds-values-bit : goal.bounds-values-bit
bounds-values-bit c = zero_at (λ net. net < length c.args.values.now) c.args.bits.now c.requires.within c.loop-bit.bit-index _ c.loop-bit-test.true

pub bounds-values-bit-in-loop-bit : goal.bounds-values-bit-in-loop-bit
bounds-values-bit-in-loop-bit c = one_at (λ net. net < length c.args.values.now) c.args.bits.now c.requires.within c.loop-bit.bit-index _ c.loop-bit-test.true

pub returns : goal.returns
returns c =
    let all : take c.loop-bit.bit-index c.args.bits.now ≡ c.args.bits.now = take_all _ _ c.loop-bit-test.false in
    let zero : c.loop-bit.rail0 ≡ map (λ (r : Rails). net_values c.args.values.now r.zero.0) c.args.bits.now =
    c.loop-bit.invariant.zero ∙ ap (map (λ (r : Rails). net_values c.args.values.now r.zero.0)) all in
    let one : c.loop-bit.rail1 ≡ map (λ (r : Rails). net_values c.args.values.now r.one.0) c.args.bits.now =
    c.loop-bit.invariant.one ∙ ap (map (λ (r : Rails). net_values c.args.values.now r.one.0)) all in
    cc
