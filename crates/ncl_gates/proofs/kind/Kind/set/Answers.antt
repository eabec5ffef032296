use Rattle.ncl_gates.proofs.Terms.{[], and_pow, ap, arith, bit_and, bit_at, nat_eq, set_of, ℕ, ◌∙◌, ◌∷◌, ◌≡◌}
use Rattle.ncl_gates.proofs.GateLaws.{set_of-four}
use Rattle.ncl_gates.proofs.kind.Kind.set.Goals as goal

pub returns : goal.returns
returns c =
    let low : bit_and c.set_values-values.result 1 ≡ bit_at c.set_values-values.result 0 = omega (arith, and_pow c.set_values-values.result 0) in
    ap (λ (n : ℕ). nat_eq n 1) low
    ∙ c.set_values-values.ensures 0
    ∙ (λ i. set_of c.args.self (c.word_at.ensures i ∷ c.word_at-2.ensures i ∷ c.word_at-3.ensures i ∷ c.word_at-4.ensures i ∷ []))
    ∙ set_of-four c.args.self c.args.ins.now
