use Rattle.ncl_reader.proofs.DraftSteps.{◌∷◌, [], ◌++◌, refl, sym, ◌∙◌, subst, false≢true, word_of, Name, Word, in_ansi, BreaksRule, KeepsNames, all_of, Plain, direction_phrase, meant, going, leading, led, heading, at_part, grouped-ends, headed_form, headed_taken, name_left, others-going, taken_mark, untaken}
use Rattle.ncl_reader.specs.declared.place.Place.TheVariants as place
use Rattle.ncl_reader.specs.declared.place.LeadPlace.TheVariants as lead
use Rattle.ncl_reader.proofs.draft.Draft.at_header_name.Goals as goal

pub returns-in-Some : goal.returns-in-Some
returns-in-Some c = λ p (kept, (groups, spec, row, is, said, read)).
    let title = c.args.self.now.title.now in
    let way = c.in-Some.way in
    let more = groups ++ record { spec = spec; names = row } ∷ [] in
    let ends = grouped-ends c.args.self.now groups spec row read in
    taken_mark p (heading title groups (going spec row)) (heading title more (leading (led (Plain way)))) (meant c.args.lexeme.now) (Word (word_of way)) (place.HeaderLead lead.Direction) (record c.args.self.now { lead = c.begun-self.result }) is c.in-Some.ensures refl (λ x e. absurd cc) kept
    (more, led (Plain way), refl, refl, (c.begun-self.ensures.output, c.begun-self.ensures.span), record { ansi = ends.ansi; header = ends.header; cells = ends.cells })
    (λ none. none)

pub returns-in_default-name : goal.returns-in_default-name
returns-in_default-name c = λ p (kept, (groups, spec, row, is, said, read)).
    let title = c.args.self.now.title.now in
    untaken place.HeaderName p (heading title groups (going spec row)) (meant c.args.lexeme.now) c.args.self.now is (others-going title groups spec row (meant c.args.lexeme.now) c.in_default.ensures c.in_default-name.ensures) (kept, (groups, spec, row, is, said, read))

pub returns-then-breaks_header : goal.returns-then-breaks_header
returns-then-breaks_header c = λ p (kept, (groups, spec, row, is, said, read)).
    let d = c.args.self.now in
    let x = c.in-Some-name.name.now in
    let form = headed_form p (meant c.args.lexeme.now) x d d groups spec (all_of row) (going spec row) is (at_part direction_phrase (going spec row) spec refl) c.in-Some-name.ensures in
    name_left place.HeaderName p (meant c.args.lexeme.now) x _ d form c.in-Some-name.ensures ((c.breaks_header.ensures groups spec (all_of row) (subst (KeepsNames d.known) form kept) said read).0 c.if-breaks_header.true) (kept, (groups, spec, row, is, said, read))

pub returns : goal.returns
returns c = λ p (kept, (groups, spec, row, is, said, read)).
    let d = c.args.self.now in
    let x = c.in-Some-name.name.now in
    let part = at_part direction_phrase (going spec row) spec refl in
    let form = headed_form p (meant c.args.lexeme.now) x d d groups spec (all_of row) (going spec row) is part c.in-Some-name.ensures in
    let here = subst (KeepsNames d.known) form kept in
    let fine : BreaksRule (in_ansi d.title.now groups spec (all_of row)) (Name x) → ⊥ = λ breaks. false≢true (sym c.if-breaks_header.false ∙ (c.breaks_header.ensures groups spec (all_of row) here said read).1 breaks) in
    headed_taken p (meant c.args.lexeme.now) x d c.take_header_name.new.self groups spec (all_of row) (going spec row) is part c.in-Some-name.ensures refl (c.in_ok-take_header_name.ensures groups spec (all_of row) here said read fine) fine
