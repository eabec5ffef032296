use Rattle.ncl_reader.proofs.RulesAt.{Some, inl, inr, refl, sym, ◌∙◌, false≢true, crowds_declares}
use Rattle.ncl_reader.proofs.draft.Draft.of_plain.Goals as goal

pub returns-then-clashes : goal.returns-then-clashes
returns-then-clashes c = λ xs kept none item pin conn. (
  refl,
  item,
  pin,
  λ (range, declares, why). none range declares,
  inr (inl ((c.clashes.ensures xs kept none).0 c.if-clashes.true)),
)

pub returns : goal.returns
returns c = λ xs kept none item pin conn. (
  refl,
  item,
  pin,
  inr (λ left. elim left [
    | inl at ↦ conn at
    | inr more ↦ elim more [
      | inl clashes ↦ false≢true (sym c.if-clashes.false ∙ (c.clashes.ensures xs kept none).1 clashes)
      | inr crowds ↦ let (range, declares) = crowds_declares xs c.args.name.now crowds in none (Some range) declares
    ]
  ]),
)
