use Rattle.ncl_space.proofs.Terms.{[], ap, arith, false, length, nat_eq, shr_and_one, sym, take, take-length, take_more, word_of, ℕ, ◌++◌, ◌-◌, ◌<◌, ◌∙◌, ◌∷◌, ◌≡◌}
use Rattle.ncl_space.proofs.BitLaws.{index-word_of, length-word_of}
use Rattle.ncl_space.proofs.plain.numbered_word.Goals as goal

pub loop-place-preserved : goal.loop-place-preserved
loop-place-preserved c =
    let n : ℕ = c.args.width in
    let i : ℕ = c.loop-place.place in
    let below : i < n = omega arith in
    let bit = ap (λ (b : ℕ). nat_eq b 1) (shr_and_one c.args.number (n - 1 - i)) ∙ sym (index-word_of n c.args.number i below) in
    c.push.ensures
    ∙ (λ t. c.loop-place.invariant t ++ bit t ∷ [])
    ∙ sym (take_more (word_of n c.args.number) i false (omega (arith, length-word_of n c.args.number)))

pub returns : goal.returns
returns c =
    let end : c.loop-place.place ≡ length (word_of c.args.width c.args.number) = omega (arith, length-word_of c.args.width c.args.number) in
    c.loop-place.invariant ∙ ap (λ (i : ℕ). take i (word_of c.args.width c.args.number)) end ∙ take-length (word_of c.args.width c.args.number)
