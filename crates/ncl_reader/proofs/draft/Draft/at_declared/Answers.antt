use Rattle.ncl_reader.proofs.DraftSteps.{refl, sym, ◌∙◌, subst, false≢true, Name, all_of, lead_phrase, at_declared, BreaksRule, KeepsNames, meant, going, inside, declaring, at_part, declared_form, declared_taken, name_left, others-declaring, untaken}
use Rattle.ncl_reader.specs.declared.place.Place.TheVariants as place
use Rattle.ncl_reader.proofs.draft.Draft.at_declared.Goals as goal

pub returns-in_default : goal.returns-in_default
returns-in_default c = λ p (kept, (head, items, spec, row, is, said, early, body)).
    untaken place.Declared p (inside head items (declaring (going spec row))) (meant c.args.lexeme.now) c.args.self.now is (others-declaring head items spec row (meant c.args.lexeme.now) c.in_default.ensures) (kept, (head, items, spec, row, is, said, early, body))

pub returns-then-breaks_declared : goal.returns-then-breaks_declared
returns-then-breaks_declared c = λ p (kept, (head, items, spec, row, is, said, early, body)).
    let d = c.args.self.now in
    let x = c.in-Some.name.now in
    let form = declared_form p (meant c.args.lexeme.now) x d head items spec (all_of row) (going spec row) is (at_part lead_phrase (going spec row) spec refl) c.in-Some.ensures in
    name_left place.Declared p (meant c.args.lexeme.now) x (at_declared head items spec (all_of row)) d form c.in-Some.ensures ((c.breaks_declared.ensures head items spec (all_of row) (subst (KeepsNames d.known) form kept) said early body).0 c.if-breaks_declared.true) (kept, (head, items, spec, row, is, said, early, body))

pub returns : goal.returns
returns c = λ p (kept, (head, items, spec, row, is, said, early, body)).
    let d = c.args.self.now in
    let x = c.in-Some.name.now in
    let part = at_part lead_phrase (going spec row) spec refl in
    let form = declared_form p (meant c.args.lexeme.now) x d head items spec (all_of row) (going spec row) is part c.in-Some.ensures in
    let here = subst (KeepsNames d.known) form kept in
    let fine : BreaksRule (at_declared head items spec (all_of row)) (Name x) → ⊥ = λ breaks. false≢true (sym c.if-breaks_declared.false ∙ (c.breaks_declared.ensures head items spec (all_of row) here said early body).1 breaks) in
    declared_taken p (meant c.args.lexeme.now) x c.take_declared.new.self head items spec (all_of row) (going spec row) is part c.in-Some.ensures refl (c.in_ok-take_declared.ensures head items spec (all_of row) here said early body fine) fine
