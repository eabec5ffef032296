use Rattle.ncl_reader.proofs.Terms.{inl, refl, sym, ◌∙◌, false≢true}
use Rattle.ncl_reader.proofs.draft.Draft.of_number.Goals as goal

pub returns-then-has_no_bit : goal.returns-then-has_no_bit
returns-then-has_no_bit c = λ p holds. (refl, λ none. none, λ none. none, inl ((c.has_no_bit.ensures p holds).0 c.if-has_no_bit.true))

pub returns : goal.returns
returns c = λ p holds. (refl, λ none. none, λ none. none, λ outside. false≢true (sym c.if-has_no_bit.false ∙ (c.has_no_bit.ensures p holds).1 outside), tt)
