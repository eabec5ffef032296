use Rattle.ncl_reader.proofs.DraftSteps.{◌≡◌, [], refl, sym, ap, ◌∙◌, subst, false, None, option_map, false≢true, Name, lead_phrase, at_declared, BreaksRule, KeepsNames, LeadTakes, lead_output, takes_name, meant, leading, inside, declaring, lead_place, word_place, or_else, step, at_part, in_item, names_none, begins, body-begins, lead_taken, lead_left, declared_form, declared_taken, name_left, untaken}
use Rattle.ncl_reader.specs.declared.place.Place.TheVariants as place
use Rattle.ncl_reader.proofs.draft.Draft.at_lead.Goals as goal

pub returns-in_default-step : goal.returns-in_default-step
returns-in_default-step c = λ p (kept, (head, items, part, is, at, led, early, body)).
    let d = c.args.self.now in
    let t = meant c.args.lexeme.now in
    let new = record d { lead = c.step.new.self } in
    let answer = subst (λ r. LeadTakes (λ q. inside head items (declaring (leading q))) lead_output word_place part t r c.step.new.self) c.in_default-step.is (c.step.ensures.item head items part c.in_default.ensures at led) in
    lead_left p (inside head items (declaring (leading part))) t is (place.Lead c.args.at) new answer.0 (kept, (head, items, part, is, at, answer.1, λ o e. early o (sym c.step.ensures.output ∙ e), (body.0, record { ansi = body.1.ansi; header = body.1.header; cells = body.1.cells })))

pub returns-in_default : goal.returns-in_default
returns-in_default c = λ p (kept, (head, items, part, is, at, led, early, body)).
    let d = c.args.self.now in
    let t = meant c.args.lexeme.now in
    let new = record d { lead = c.step.new.self } in
    let (next, after, keeps, grows, unbroken) = subst (λ r. LeadTakes (λ q. inside head items (declaring (leading q))) lead_output word_place part t r c.step.new.self) c.in-Some-step.is (c.step.ensures.item head items part c.in_default.ensures at led) in
    lead_taken p (inside head items (declaring (leading part))) t is (inside head items (declaring (leading next))) (place.Lead c.in-Some-step.after) new grows unbroken c.in_default.ensures kept (head, items, next, refl, after, keeps, λ o e. early o (sym c.step.ensures.output ∙ e), (body.0, record { ansi = body.1.ansi; header = body.1.header; cells = body.1.cells }))

pub returns-then-not-takes_name : goal.returns-then-not-takes_name
returns-then-not-takes_name c = λ p (kept, (head, items, part, is, at, led, early, body)).
    let d = c.args.self.now in
    let none : takes_name (lead_place word_place part) ≡ false = ap takes_name at ∙ sym c.takes_name.ensures ∙ c.if-not-takes_name.true in
    untaken (place.Lead c.args.at) p (inside head items (declaring (leading part))) (meant c.args.lexeme.now) d is (ap (step (inside head items (declaring (leading part)))) c.in-Some.ensures ∙ names_none (in_item head items) d.lead part c.in-Some.name.now none) (kept, (head, items, part, is, at, led, early, body))

pub returns-then-breaks_declared : goal.returns-then-breaks_declared
returns-then-breaks_declared c = λ p (kept, (head, items, part, is, at, led, early, body)).
    let d = c.args.self.now in
    let t = meant c.args.lexeme.now in
    let x = c.in-Some.name.now in
    let start = begins (in_item head items) d.lead part x c.args.at c.takes_name.result at c.takes_name.ensures c.if-not-takes_name.false led in
    let form = declared_form p t x d head items start.spec [] (leading part) is (at_part lead_phrase (leading part) start.spec start.says) c.in-Some.ensures in
    name_left (place.Lead c.args.at) p t x (at_declared head items start.spec []) d form c.in-Some.ensures ((c.breaks_declared.ensures head items start.spec [] (subst (KeepsNames d.known) form kept) start.keeps early (body-begins d head items start.spec body)).0 c.if-breaks_declared.true) (kept, (head, items, part, is, at, led, early, body))

pub returns : goal.returns
returns c = λ p (kept, (head, items, part, is, at, led, early, body)).
    let d = c.args.self.now in
    let t = meant c.args.lexeme.now in
    let x = c.in-Some.name.now in
    let start = begins (in_item head items) d.lead part x c.args.at c.takes_name.result at c.takes_name.ensures c.if-not-takes_name.false led in
    let group = at_part lead_phrase (leading part) start.spec start.says in
    let form = declared_form p t x d head items start.spec [] (leading part) is group c.in-Some.ensures in
    let here = subst (KeepsNames d.known) form kept in
    let read_here = body-begins d head items start.spec body in
    let fine : BreaksRule (at_declared head items start.spec []) (Name x) → ⊥ = λ breaks. false≢true (sym c.if-breaks_declared.false ∙ (c.breaks_declared.ensures head items start.spec [] here start.keeps early read_here).1 breaks) in
    declared_taken p t x c.take_declared.new.self head items start.spec [] (leading part) is group c.in-Some.ensures (ap (λ found. or_else (option_map (λ more. inside head items (declaring more)) found) None) start.takes) (c.in_ok-take_declared.ensures head items start.spec [] here start.keeps early read_here fine) fine
