use Rattle.ncl_machine.proofs.Terms.{Bool, Rails, arith, count_of, drop, has_data, length, net_values, sym, ◌+◌, ◌<◌, ◌∙◌, ◌≡◌}
use Rattle.ncl_machine.proofs.Counts.{count-few}
use Rattle.ncl_machine.proofs.CountSteps.{count-passed, count-failed, count-past}
use Rattle.ncl_machine.proofs.RailPlaces.{zero_at, one_at}
use Rattle.ncl_machine.proofs.levels.count_data.Goals as goal
use Rattle.ncl_machine.proofs.levels.count_data.Goals.{then-has_data, else-has_data}

-- a bit, where a list has none
abbrev no_rails : Rails
no_rails = record { zero = record { 0 = 0 }; one = record { 0 = 0 } }

pub has_data-requires-clause-zero : goal.has_data-requires-clause-zero
has_data-requires-clause-zero c = zero_at (λ net. net < length c.args.values.now) c.args.bits.now c.requires.within c.loop-bit.bit-index _ c.loop-bit-test.true

pub has_data-requires-clause-one : goal.has_data-requires-clause-one
has_data-requires-clause-one c = one_at (λ net. net < length c.args.values.now) c.args.bits.now c.requires.within c.loop-bit.bit-index _ c.loop-bit-test.true

pub overflow_add-count : goal.overflow_add-count
overflow_add-count c =
    let test : Rails → Bool = has_data (net_values c.args.values.now) in
    let inv : c.loop-bit.count + count_of test (drop c.loop-bit.bit-index c.args.bits.now) ≡ count_of test c.args.bits.now = c.loop-bit.invariant in
    let few = c.requires.few in
    let most = count-few test c.args.bits.now in
    omega (arith, inv, few, most)

pub loop-bit-preserved : goal.loop-bit-preserved
loop-bit-preserved c =
    let test : Rails → Bool = has_data (net_values c.args.values.now) in
    let k = c.loop-bit.bit-index in
    let bits = c.args.bits.now in
    let inv : c.loop-bit.count + count_of test (drop k bits) ≡ count_of test bits = c.loop-bit.invariant in
    elim c.if-has_data.branch [
      | then-has_data w ↦
          let one = count-passed test bits k no_rails c.loop-bit-test.true (sym c.has_data.ensures ∙ w.if-has_data.true) in
          let counts = w.count-is in
          let now : c.if-has_data.count + count_of test (drop (k + 1) bits) ≡ count_of test bits = omega (arith, inv, one, counts) in
          now
      | else-has_data w ↦
          let one = count-failed test bits k no_rails c.loop-bit-test.true (sym c.has_data.ensures ∙ w.if-has_data.false) in
          let counts = w.count-is in
          let now : c.if-has_data.count + count_of test (drop (k + 1) bits) ≡ count_of test bits = omega (arith, inv, one, counts) in
          now
    ]

pub returns : goal.returns
returns c =
    let test : Rails → Bool = has_data (net_values c.args.values.now) in
    let inv : c.loop-bit.count + count_of test (drop c.loop-bit.bit-index c.args.bits.now) ≡ count_of test c.args.bits.now = c.loop-bit.invariant in
    let none = count-past test c.args.bits.now c.loop-bit.bit-index c.loop-bit-test.false in
    omega (arith, inv, none)
