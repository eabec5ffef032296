use Rattle.ncl_reader.proofs.DraftSteps.{◌≢◌, [], true, refl, sym, ◌∙◌, subst, IfOk, false≢true, word_of, RParen, Mark, Word, Plain, Empty, meant, listing, heading, headed, leading, led, TakesOrBreaks, others-first, taken_mark, untaken}
use Rattle.ncl_reader.specs.declared.place.Place.TheVariants as place
use Rattle.ncl_reader.specs.declared.place.LeadPlace.TheVariants as lead
use Rattle.ncl_reader.proofs.draft.Draft.at_first_port.Goals as goal

pub returns-then-is_mark : goal.returns-then-is_mark
returns-then-is_mark c = λ p (kept, (is, bare)).
    let title = c.args.self.now.title.now in
    taken_mark p (listing title []) (headed title Empty) (meant c.args.lexeme.now) (Mark RParen) place.AfterPorts c.args.self.now is (c.is_mark.ensures.0 c.if-is_mark.true) refl (λ x e. absurd cc) kept (Empty, refl, (refl, bare)) (λ none. none)

pub returns-in-Some : goal.returns-in-Some
returns-in-Some c = λ p (kept, (is, bare)).
    let title = c.args.self.now.title.now in
    let way = c.in-Some.way in
    taken_mark p (listing title []) (heading title [] (leading (led (Plain way)))) (meant c.args.lexeme.now) (Word (word_of way)) (place.HeaderLead lead.Direction) (record c.args.self.now { ansi = true; lead = c.begun-self.result }) is c.in-Some.ensures refl (λ x e. absurd cc) kept
    ([], led (Plain way), refl, refl, (c.begun-self.ensures.output, c.begun-self.ensures.span), record { ansi = refl; header = bare.header; cells = bare.cells })
    (λ none. none)

pub returns-in_default-name : goal.returns-in_default-name
returns-in_default-name c = λ p (kept, (is, bare)).
    let title = c.args.self.now.title.now in
    let one : meant c.args.lexeme.now ≢ Mark RParen = λ e. false≢true (sym c.if-is_mark.false ∙ c.is_mark.ensures.1 e) in
    untaken place.FirstPort p (listing title []) (meant c.args.lexeme.now) c.args.self.now is (others-first title (meant c.args.lexeme.now) one c.in_default.ensures c.in_default-name.ensures) (kept, (is, bare))

pub returns : goal.returns
returns c = λ p holds.
    subst (λ t. IfOk c.at_plain.result (λ after. TakesOrBreaks place.FirstPort p t after c.at_plain.new.self)) (sym c.in-Some-name.ensures) (c.at_plain.ensures p holds)
