use Rattle.ncl_reader.proofs.DraftSteps.{◌≢◌, refl, sym, ◌∙◌, false≢true, Module, Word, meant, start, begun, others-start, taken_mark, untaken}
use Rattle.ncl_reader.specs.declared.place.Place.TheVariants as place
use Rattle.ncl_reader.proofs.draft.Draft.at_module.Goals as goal

pub returns-then-is_word : goal.returns-then-is_word
returns-then-is_word c = λ p (kept, (is, bare)).
    taken_mark p start begun (meant c.args.lexeme.now) (Word Module) place.ModuleName c.args.self.now is (c.is_word.ensures.0 c.if-is_word.true) refl (λ x e. absurd cc) kept (refl, bare) (λ none. none)

pub returns : goal.returns
returns c = λ p (kept, (is, bare)).
    let other : meant c.args.lexeme.now ≢ Word Module = λ e. false≢true (sym c.if-is_word.false ∙ c.is_word.ensures.1 e) in
    untaken place.Module p start (meant c.args.lexeme.now) c.args.self.now is (others-start (meant c.args.lexeme.now) other) (kept, (is, bare))
