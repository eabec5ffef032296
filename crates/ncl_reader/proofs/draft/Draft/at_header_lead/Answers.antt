use Rattle.ncl_reader.proofs.DraftSteps.{◌≡◌, [], refl, sym, ap, ◌∙◌, subst, false, None, option_map, false≢true, Name, direction_phrase, in_ansi, BreaksRule, KeepsNames, LeadTakes, direction_output, takes_name, meant, leading, heading, lead_place, direction_place, or_else, step, at_part, in_header, names_none, begins, grouped-begins, lead_taken, lead_left, headed_form, headed_taken, name_left, untaken}
use Rattle.ncl_reader.specs.declared.place.Place.TheVariants as place
use Rattle.ncl_reader.proofs.draft.Draft.at_header_lead.Goals as goal

pub returns-in_default-step : goal.returns-in_default-step
returns-in_default-step c = λ p (kept, (groups, part, is, at, led, read)).
    let d = c.args.self.now in
    let title = d.title.now in
    let t = meant c.args.lexeme.now in
    let answer = subst (λ r. LeadTakes (λ q. heading title groups (leading q)) direction_output direction_place part t r c.step.new.self) c.in_default-step.is (c.step.ensures.header title groups part c.in_default.ensures at led) in
    lead_left p (heading title groups (leading part)) t is (place.HeaderLead c.args.at) (record d { lead = c.step.new.self }) answer.0 (kept, (groups, part, is, at, answer.1, record { ansi = read.ansi; header = read.header; cells = read.cells }))

pub returns-in_default : goal.returns-in_default
returns-in_default c = λ p (kept, (groups, part, is, at, led, read)).
    let d = c.args.self.now in
    let title = d.title.now in
    let t = meant c.args.lexeme.now in
    let (next, after, keeps, grows, unbroken) = subst (λ r. LeadTakes (λ q. heading title groups (leading q)) direction_output direction_place part t r c.step.new.self) c.in-Some-step.is (c.step.ensures.header title groups part c.in_default.ensures at led) in
    lead_taken p (heading title groups (leading part)) t is (heading title groups (leading next)) (place.HeaderLead c.in-Some-step.after) (record d { lead = c.step.new.self }) grows unbroken c.in_default.ensures kept (groups, next, refl, after, keeps, record { ansi = read.ansi; header = read.header; cells = read.cells })

pub returns-then-not-takes_name : goal.returns-then-not-takes_name
returns-then-not-takes_name c = λ p (kept, (groups, part, is, at, led, read)).
    let d = c.args.self.now in
    let title = d.title.now in
    let none : takes_name (lead_place direction_place part) ≡ false = ap takes_name at ∙ sym c.takes_name.ensures ∙ c.if-not-takes_name.true in
    untaken (place.HeaderLead c.args.at) p (heading title groups (leading part)) (meant c.args.lexeme.now) d is (ap (step (heading title groups (leading part))) c.in-Some.ensures ∙ names_none (in_header title groups) d.lead part c.in-Some.name.now none) (kept, (groups, part, is, at, led, read))

pub returns-then-breaks_header : goal.returns-then-breaks_header
returns-then-breaks_header c = λ p (kept, (groups, part, is, at, led, read)).
    let d = c.args.self.now in
    let t = meant c.args.lexeme.now in
    let x = c.in-Some.name.now in
    let start = begins (in_header d.title.now groups) d.lead part x c.args.at c.takes_name.result at c.takes_name.ensures c.if-not-takes_name.false led in
    let form = headed_form p t x d d groups start.spec [] (leading part) is (at_part direction_phrase (leading part) start.spec start.says) c.in-Some.ensures in
    name_left (place.HeaderLead c.args.at) p t x (in_ansi d.title.now groups start.spec []) d form c.in-Some.ensures ((c.breaks_header.ensures groups start.spec [] (subst (KeepsNames d.known) form kept) start.keeps (grouped-begins d groups start.spec read)).0 c.if-breaks_header.true) (kept, (groups, part, is, at, led, read))

pub returns : goal.returns
returns c = λ p (kept, (groups, part, is, at, led, read)).
    let d = c.args.self.now in
    let t = meant c.args.lexeme.now in
    let x = c.in-Some.name.now in
    let start = begins (in_header d.title.now groups) d.lead part x c.args.at c.takes_name.result at c.takes_name.ensures c.if-not-takes_name.false led in
    let group = at_part direction_phrase (leading part) start.spec start.says in
    let form = headed_form p t x d d groups start.spec [] (leading part) is group c.in-Some.ensures in
    let here = subst (KeepsNames d.known) form kept in
    let read_here = grouped-begins d groups start.spec read in
    let fine : BreaksRule (in_ansi d.title.now groups start.spec []) (Name x) → ⊥ = λ breaks. false≢true (sym c.if-breaks_header.false ∙ (c.breaks_header.ensures groups start.spec [] here start.keeps read_here).1 breaks) in
    headed_taken p t x d c.take_header_name.new.self groups start.spec [] (leading part) is group c.in-Some.ensures (ap (λ found. or_else (option_map (heading d.title.now groups) found) None) start.takes) (c.in_ok-take_header_name.ensures groups start.spec [] here start.keeps read_here fine) fine
