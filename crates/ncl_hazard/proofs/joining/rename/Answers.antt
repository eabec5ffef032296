use Rattle.ncl_hazard.proofs.Terms.{List, NetId, Rails, ap, arith, drop, get_or, length, length-set, name_in, one_at, replaced, set, subst, sym, zero_at, ℕ, ◌+◌, ◌-◌, ◌<◌, ◌∙◌, ◌≡◌}
use Rattle.ncl_hazard.proofs.JoiningLaws.{replaced-turn}
use Rattle.ncl_hazard.proofs.joining.rename.Goals as goal

no_bit : Rails
no_bit = record { zero = record { 0 = 0 }; one = record { 0 = 0 } }

pub index_mut-requires : goal.index_mut-requires
unfolding no_bit
index_mut-requires c =
    let some = c.loop-left-test.true in
    let le = c.loop-left.invariant.1 in
    let inside = one_at (λ net. net < length c.args.names.now.items) c.args.bits.now c.requires.within (c.loop-left.left - 1) no_bit (omega (arith, some, le)) in
    omega (arith, inside, c.loop-left.names.ok.0, c.loop-left.invariant.0)

pub index_mut-requires-in-loop-left : goal.index_mut-requires-in-loop-left
unfolding no_bit
index_mut-requires-in-loop-left c =
    let some = c.loop-left-test.true in
    let le = c.loop-left.invariant.1 in
    let inside = zero_at (λ net. net < length c.args.names.now.items) c.args.bits.now c.requires.within (c.loop-left.left - 1) no_bit (omega (arith, some, le)) in
    omega (arith, inside, c.loop-left.names.ok.0, c.loop-left.invariant.0)

pub loop-left-preserved : goal.loop-left-preserved
unfolding no_bit
loop-left-preserved c =
    let some = c.loop-left-test.true in
    let le = c.loop-left.invariant.1 in
    let i : ℕ = c.loop-left.left - 1 in
    let bits : List Rails = c.args.bits.now in
    let taken : List Rails = c.args.taken.now in
    let names : List NetId = c.loop-left.names.items in
    let within : i < length bits = omega (arith, some, le) in
    let back : i + 1 ≡ c.loop-left.left = omega (arith, some) in
    let one_in : (get_or bits i no_bit).one.0 < length names = subst (λ n. (get_or bits i no_bit).one.0 < n) (sym c.loop-left.invariant.0) (one_at (λ net. net < length c.args.names.now.items) bits c.requires.within i no_bit within) in
    let zero_in : (get_or bits i no_bit).zero.0 < length names = subst (λ n. (get_or bits i no_bit).zero.0 < n) (sym c.loop-left.invariant.0) (zero_at (λ net. net < length c.args.names.now.items) bits c.requires.within i no_bit within) in (
      length-set (set names (get_or bits i no_bit).one.0 (get_or taken i no_bit).one) (get_or bits i no_bit).zero.0 (get_or taken i no_bit).zero ∙ length-set names (get_or bits i no_bit).one.0 (get_or taken i no_bit).one ∙ c.loop-left.invariant.0,
      omega (arith, within),
      replaced-turn (name_in c.args.names.now.items) names bits taken i no_bit within c.requires.many one_in zero_in
          (λ x. c.loop-left.invariant.2 x ∙ ap (λ k. replaced (name_in c.args.names.now.items) (drop k bits) (drop k taken) x) (sym back)),
    )
