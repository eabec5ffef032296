use Rattle.ncl_reaching.proofs.Terms.{Bool, List, NetId, Rails, among, ap, arith, at_rail, drop, false, get_or, length, length-set, named_rails, rail_of, sym, true, value_in, ℕ, ◌+◌, ◌-◌, ◌<◌, ◌∙◌, ◌≡◌}
use Rattle.std.specs.Prelude.{◌||◌}
use Rattle.ncl_reaching.proofs.EvaluatingLaws.{raised-turn}
use Rattle.ncl_reaching.proofs.evaluating.raise.Goals.{then-bits-left, else-bits-left}
use Rattle.ncl_reaching.proofs.evaluating.raise.Goals as goal

no_bit : Rails
no_bit = record { zero = record { 0 = 0 }; one = record { 0 = 0 } }

-- the rail that is raised is that of the bit
is_rail : (net : NetId) (bit : Rails) (value : Bool) → value ≡ true → net ≡ bit.one → net.0 ≡ rail_of bit value
is_rail net bit value e is = ap (λ (x : NetId). x.0) is ∙ sym (ap (rail_of bit) e)

is_other : (net : NetId) (bit : Rails) (value : Bool) → value ≡ false → net ≡ bit.zero → net.0 ≡ rail_of bit value
is_other net bit value e is = ap (λ (x : NetId). x.0) is ∙ sym (ap (rail_of bit) e)

pub index_mut-requires : goal.index_mut-requires
unfolding no_bit
index_mut-requires c =
    let le = c.loop-left.invariant.within in
    let some = c.loop-left-test.true in
    let rails = at_rail (λ net. net < length c.args.values.now.items) c.args.inputs.now c.requires.within (c.loop-left.left - 1) no_bit (omega (arith, le, some)) in
    let many = c.loop-left.invariant.many in
    let ok = c.loop-left.values.ok.0 in
    elim c.if-bits-left.branch [
      | then-bits-left w ↦ (let is = ap (λ (x : NetId). x.0) w.net-is in let lt = rails.1 in omega (arith, is, lt, many, ok))
      | else-bits-left w ↦ (let is = ap (λ (x : NetId). x.0) w.net-is in let lt = rails.0 in omega (arith, is, lt, many, ok))
    ]

pub loop-left-preserved : goal.loop-left-preserved
unfolding no_bit
loop-left-preserved c =
    let le = c.loop-left.invariant.within in
    let some = c.loop-left-test.true in
    let i : ℕ = c.loop-left.left - 1 in
    let inputs : List Rails = c.args.inputs.now in
    let word = c.args.word.now in
    let old = c.args.values.now.items in
    let now = c.loop-left.values.items in
    let within : i < length inputs = omega (arith, le, some) in
    let back : i + 1 ≡ c.loop-left.left = omega (arith, some) in
    let rails = at_rail (λ net. net < length old) inputs c.requires.within i no_bit within in
    let many = c.loop-left.invariant.many in
    let each : (net : ℕ) → value_in now net ≡ (among (named_rails (drop (i + 1) inputs) (drop (i + 1) word)) net || value_in old net) =
    (λ net. c.loop-left.invariant.named net ∙ ap (λ k. among (named_rails (drop k inputs) (drop k word)) net || value_in old net) (sym back)) in
    record {
      many = length-set now c.if-bits-left.net.0 true ∙ many;
      within = omega (arith, within);
      named = elim c.if-bits-left.branch [
        | then-bits-left w ↦ raised-turn old now inputs word i no_bit within c.requires.wide c.if-bits-left.net.0
            (is_rail c.if-bits-left.net (get_or inputs i no_bit) (get_or word i false) (sym (ap (λ xs. get_or xs i false) c.bits.ensures.bits) ∙ w.if-bits-left.true) w.net-is)
            (let is = ap (λ (x : NetId). x.0) w.net-is in let lt = rails.1 in omega (arith, is, lt, many)) each
        | else-bits-left w ↦ raised-turn old now inputs word i no_bit within c.requires.wide c.if-bits-left.net.0
            (is_other c.if-bits-left.net (get_or inputs i no_bit) (get_or word i false) (sym (ap (λ xs. get_or xs i false) c.bits.ensures.bits) ∙ w.if-bits-left.false) w.net-is)
            (let is = ap (λ (x : NetId). x.0) w.net-is in let lt = rails.0 in omega (arith, is, lt, many)) each
      ];
    }
