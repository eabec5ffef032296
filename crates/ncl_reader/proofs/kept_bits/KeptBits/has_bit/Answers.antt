use Rattle.ncl_reader.proofs.Kept.{◌≡◌, ℕ, List, [], unwrap_or, ap, ◌∙◌, arith, option_map, false≢true, numbers_at, covers_stands, stands_covers}
use Rattle.ncl_reader.proofs.kept_bits.KeptBits.has_bit.Goals as goal

pub returns-in-Some : goal.returns-in-Some
returns-in-Some c = λ xs is.
    let numbers = c.deref.result.now in
    let same : numbers ≡ numbers_at c.args.self.now c.args.vector.now = c.deref.ensures.value ∙ ap (λ o. unwrap_or (option_map (λ n. n.items) o) []) c.in-Some.ensures.value in (
      λ e. let (i, less, covers) = c.covers_one.ensures.0 e in covers_stands c.args.self.now xs c.args.vector.now c.args.span numbers same is i less covers,
      λ (k, covers, stands). c.covers_one.ensures.1 (stands_covers c.args.self.now xs c.args.vector.now c.args.span numbers same is (omega arith) (omega arith) k covers stands),
    )

pub returns-in-None : goal.returns-in-None
returns-in-None c = λ xs is.
    let none : List ℕ = [] in
    let same : none ≡ numbers_at c.args.self.now c.args.vector.now = ap (λ o. unwrap_or (option_map (λ n. n.items) o) []) c.in-None.ensures.value in (
      λ e. absurd (false≢true e),
      λ (k, covers, stands). let (i, less, at) = stands_covers c.args.self.now xs c.args.vector.now c.args.span none same is (omega arith) (omega arith) k covers stands in absurd (omega (arith, less)),
    )
