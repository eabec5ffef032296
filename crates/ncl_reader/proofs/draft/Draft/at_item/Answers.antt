use Rattle.ncl_reader.proofs.DraftSteps.{◌≢◌, Contains, None, true, false, refl, sym, ◌∙◌, subst, ap, false≢true, none-some, EndModule, Wire, word_of, Word, Plain, Gives, Wires, header_of, said_by, AllDirected, meant, at_item, inside, declaring, leading, led, ended, is_ansi, names-said_by, ansi_groups, against, others-item, taken_mark, untaken}
use Rattle.ncl_reader.specs.declared.place.Place.TheVariants as place
use Rattle.ncl_reader.specs.declared.place.LeadPlace.TheVariants as lead
use Rattle.ncl_reader.proofs.draft.Draft.at_item.Goals as goal

pub returns-in-Some : goal.returns-in-Some
returns-in-Some c = c.at_cell.ensures c.in-Some.ensures

pub returns-then-self : goal.returns-then-self
returns-then-self c = λ p (kept, (head, items, is, body)).
    let (groups, ports) = ansi_groups head.ports (sym body.1.ansi ∙ c.if-self.true) in
    against place.Item p (at_item head items) (meant c.args.lexeme.now) c.args.self.now is (Word (word_of c.in-Some-way.way)) c.in-Some-way.ensures (groups, ports) (kept, (head, items, is, body))

pub returns-in-Some-way : goal.returns-in-Some-way
returns-in-Some-way c = λ p (kept, (head, items, is, body)).
    let way = c.in-Some-way.way in
    let new = record c.args.self.now { lead = c.begun-self.result } in
    taken_mark p (at_item head items) (inside head items (declaring (leading (led (Gives (Plain way)))))) (meant c.args.lexeme.now) (Word (word_of way)) (place.Lead lead.Direction) new is c.in-Some-way.ensures refl (λ x e. absurd cc) kept
    (head, items, led (Gives (Plain way)), refl, refl, (c.begun-self.ensures.output, c.begun-self.ensures.span), λ o e. c.if-self.false, (body.0, record { ansi = body.1.ansi; header = body.1.header; cells = body.1.cells }))
    (λ (groups, ports). false≢true (sym c.if-self.false ∙ body.1.ansi ∙ ap is_ansi ports))

pub returns-then-is_word : goal.returns-then-is_word
returns-then-is_word c = λ p (kept, (head, items, is, body)).
    let new = record c.args.self.now { lead = record { output = None; span = None; first = 0 } } in
    taken_mark p (at_item head items) (inside head items (declaring (leading (led Wires)))) (meant c.args.lexeme.now) (Word Wire) (place.Lead lead.Wire) new is (c.is_word.ensures.0 c.if-is_word.true) refl (λ x e. absurd cc) kept
    (head, items, led Wires, refl, refl, (refl, refl), (λ o e. absurd (none-some o e)), (body.0, record { ansi = body.1.ansi; header = body.1.header; cells = body.1.cells }))
    (λ none. none)

pub returns-then-not-is_word : goal.returns-then-not-is_word
returns-then-not-is_word c = λ p (kept, (head, items, is, body)).
    let wire : meant c.args.lexeme.now ≢ Word Wire = λ e. false≢true (sym c.if-is_word.false ∙ c.is_word.ensures.1 e) in
    let ends : meant c.args.lexeme.now ≢ Word EndModule = λ e. false≢true (sym c.if-not-is_word.true ∙ c.is_word-2.ensures.1 e) in
    untaken place.Item p (at_item head items) (meant c.args.lexeme.now) c.args.self.now is (others-item head items (meant c.args.lexeme.now) ends wire c.in_default-way.ensures c.in_default.ensures) (kept, (head, items, is, body))

pub returns-then-not-all_directed : goal.returns-then-not-all_directed
returns-then-not-all_directed c = λ p (kept, (head, items, is, body)).
    let said = said_by (record { head = head; items = items }) in
    let left : AllDirected false (header_of head) said = subst (λ b. AllDirected b (header_of head) said) c.if-not-all_directed.true (c.all_directed.ensures (header_of head) said body.1.header) in
    against place.Item p (at_item head items) (meant c.args.lexeme.now) c.args.self.now is (Word EndModule) (c.is_word-2.ensures.0 c.if-not-is_word.false) (left.0, left.1, subst (λ l. ¬ Contains l left.0) (names-said_by head items) left.2) (kept, (head, items, is, body))

pub returns : goal.returns
returns c = λ p (kept, (head, items, is, body)).
    let said = said_by (record { head = head; items = items }) in
    let all : AllDirected true (header_of head) said = subst (λ b. AllDirected b (header_of head) said) c.if-not-all_directed.false (c.all_directed.ensures (header_of head) said body.1.header) in
    taken_mark p (at_item head items) (ended head items) (meant c.args.lexeme.now) (Word EndModule) place.End c.args.self.now is (c.is_word-2.ensures.0 c.if-not-is_word.false) refl (λ x e. absurd cc) kept (head, items, refl, body) (λ (port, stands, undirected). undirected (subst (λ l. Contains l port) (names-said_by head items) (all port stands)))
