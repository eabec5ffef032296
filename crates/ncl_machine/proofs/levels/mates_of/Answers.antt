use Rattle.ncl_machine.proofs.Terms.{Rails, Some, ap, arith, get_or, length, length-set, mate_in, mate_of, option_or, set, subst, sym, take, take_more, ◌<◌, ◌∙◌}
use Rattle.ncl_machine.proofs.Mates.{mate_in-push, mates-put}
use Rattle.ncl_machine.proofs.RailPlaces.{zero_at, one_at}
use Rattle.ncl_machine.proofs.levels.mates_of.Goals as goal

no_bit : Rails
no_bit = record { zero = record { 0 = 0 }; one = record { 0 = 0 } }

pub index_mut-requires : goal.index_mut-requires
unfolding no_bit
index_mut-requires c =
    let inside = one_at (λ net. net < c.args.nets) c.args.bits.now c.requires c.loop-bit.bit-index no_bit c.loop-bit-test.true in
    omega (arith, inside, c.loop-bit.mates.ok.0, c.loop-bit.invariant.as_many)

pub index_mut-requires-in-loop-bit : goal.index_mut-requires-in-loop-bit
unfolding no_bit
index_mut-requires-in-loop-bit c =
    let inside = zero_at (λ net. net < c.args.nets) c.args.bits.now c.requires c.loop-bit.bit-index no_bit c.loop-bit-test.true in
    omega (arith, inside, c.loop-bit.mates.ok.0, c.loop-bit.invariant.as_many)

pub loop-bit-preserved : goal.loop-bit-preserved
unfolding no_bit
loop-bit-preserved c =
    let bits = c.args.bits.now in
    let k = c.loop-bit.bit-index in
    let r : Rails = get_or bits k no_bit in
    let mates = c.loop-bit.mates.items in
    let zero_in : r.zero.0 < length mates = subst (λ n. r.zero.0 < n) (sym c.loop-bit.invariant.as_many) (zero_at (λ net. net < c.args.nets) bits c.requires k no_bit c.loop-bit-test.true) in
    let one_in : r.one.0 < length mates = subst (λ n. r.one.0 < n) (sym c.loop-bit.invariant.as_many) (one_at (λ net. net < c.args.nets) bits c.requires k no_bit c.loop-bit-test.true) in
    record {
      as_many = length-set (set mates r.one.0 (Some r.zero)) r.zero.0 (Some r.one) ∙ length-set mates r.one.0 (Some r.zero) ∙ c.loop-bit.invariant.as_many;
      each = λ net. mates-put mates r net zero_in one_in ∙ ap (option_or (mate_of r net)) (c.loop-bit.invariant.each net)
          ∙ sym (mate_in-push (take k bits) r net) ∙ sym (ap (λ xs. mate_in xs net) (take_more bits k no_bit c.loop-bit-test.true));
    }
