use Rattle.ncl_demo.proofs.Terms.{[], ap, append_assoc, arith, bit_of, length, length_push, sym, ◌++◌, ◌∙◌, ◌∷◌, ◌≡◌}
use Rattle.ncl_demo.proofs.Carrying.{in_turn_more}
use Rattle.ncl_demo.proofs.words.in_turn.Goals as goal

pub loop-place-preserved : goal.loop-place-preserved
loop-place-preserved c =
    let n = c.loop-place.place in
    let old = c.loop-place.word in
    let a = bit_of c.args.a n in
    let b = bit_of c.args.b n in
    let two : c.push-in-loop-place.new.self ≡ old ++ a ∷ b ∷ [] =
    c.push-in-loop-place.ensures ∙ ap (λ w. w ++ b ∷ []) c.push.ensures ∙ append_assoc old (a ∷ []) (b ∷ []) in record {
      bits = two ∙ ap (λ w. w ++ a ∷ b ∷ []) c.loop-place.invariant.bits ∙ sym (in_turn_more n c.args.a c.args.b);
      many = omega (arith, ap length c.push-in-loop-place.ensures, ap length c.push.ensures, length_push old a, length_push c.push.new.self b, c.loop-place.invariant.many);
    }
