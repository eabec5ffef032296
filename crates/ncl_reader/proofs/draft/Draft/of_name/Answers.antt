use Rattle.ncl_reader.proofs.Places.{◌≡◌, [], Option, true, inl, inr, refl, sym, ap, ◌∙◌, subst, Decides, option_map, Name, all_of, direction_phrase, lead_phrase, Range, in_ansi, at_declared, IsDeclaring, span_of, Crowds, takes_name, IsFaultAt, KeepsNames, HoldsAt, going, leading, spelled, at_part, heading_form, declaring_form, range_here, grouped-begins, body-begins, in_header, in_item, begins, not_declaring, holds-place, declared_as, declared_no_conn, declares_by, declaring-here, elsewhere, form_at, no_range_header, no_range_item, place_at}
use Rattle.ncl_reader.specs.declared.place.Place.TheVariants as place
use Rattle.ncl_reader.proofs.draft.Draft.of_name.Goals as goal

pub returns-in-Item : goal.returns-in-Item
returns-in-Item c = λ p holds. (refl, form_at p place.Item (holds-place c.args.place c.args.self.now p holds ∙ c.in-Item.is))

pub returns-in-Pin : goal.returns-in-Pin
returns-in-Pin c = λ p holds.
    let at = holds-place c.args.place c.args.self.now p holds ∙ c.in-Pin.is in (
      refl,
      λ item. let wrong : place.Item ≡ place.Pin = sym (place_at p place.Item item) ∙ at in absurd cc,
      form_at p place.Pin at,
    )

pub returns-in-Connection : goal.returns-in-Connection
returns-in-Connection c = λ p holds.
    let at = holds-place c.args.place c.args.self.now p holds ∙ c.in-Connection.is in
    let conn = form_at p place.Connection at in (
      refl,
      λ item. let wrong : place.Item ≡ place.Connection = sym (place_at p place.Item item) ∙ at in absurd cc,
      λ pin. let wrong : place.Pin ≡ place.Connection = sym (place_at p place.Pin pin) ∙ at in absurd cc,
      λ (range, declares, why). declared_no_conn (spelled p) range declares conn,
      inl conn,
    )

pub returns-in-HeaderLead : goal.returns-in-HeaderLead
returns-in-HeaderLead c = λ p holds.
    let d = c.args.self.now in
    let lead = c.in-HeaderLead.lead in
    let (item, pin, conn) = elsewhere p (place.HeaderLead lead) (holds-place c.args.place d p holds ∙ c.in-HeaderLead.is) (λ e. absurd cc) (λ e. absurd cc) (λ e. absurd cc) in
    let (kept, (groups, part, is, at, led, read)) = subst (λ at. HoldsAt at d p) c.in-HeaderLead.is holds in
    let takes : takes_name lead ≡ true → (range : Option Range) × IsDeclaring (spelled p) range × (option_map span_of range ≡ d.lead.span) × Decides c.crowds_header.result (Crowds (spelled p) c.args.name.now) = λ may.
    let start = begins (in_header d.title.now groups) d.lead part c.args.name.now lead (takes_name lead) at refl may led in
    let form : spelled p ≡ in_ansi d.title.now groups start.spec [] = ap spelled is ∙ heading_form d.title.now groups (leading part) start.spec [] (at_part direction_phrase (leading part) start.spec start.says) in
    let decides = c.crowds_header.ensures groups start.spec [] start.keeps (grouped-begins d groups start.spec read) in
    declared_as (spelled p) _ c.args.name.now start.spec.range d.lead.span c.crowds_header.result form (inl (d.title.now, groups, start.spec.lead, [], refl)) start.keeps.1.same decides in
    c.of_led.ensures (spelled p) kept (takes, λ may_not. not_declaring p (ap range_here is ∙ no_range_header part (ap takes_name at ∙ may_not))) item pin conn

pub returns-in-HeaderName : goal.returns-in-HeaderName
returns-in-HeaderName c = λ p holds.
    let (kept, (groups, spec, row, is, said, read)) = subst (λ at. HoldsAt at c.args.self.now p) c.in-HeaderName.is holds in
    let names = all_of row in
    let form : spelled p ≡ in_ansi c.args.self.now.title.now groups spec names = ap spelled is ∙ heading_form c.args.self.now.title.now groups (going spec row) spec names (at_part direction_phrase (going spec row) spec refl) in
    subst (λ xs. IsFaultAt xs (record { lexeme = Name c.args.name.now; place = c.args.at }) c.of_declared.result) (sym form)
    (c.of_declared.ensures (in_ansi c.args.self.now.title.now groups spec names) spec.range (subst (KeepsNames c.args.self.now.known) form kept) (inl (c.args.self.now.title.now, groups, spec.lead, names, refl)) said.1.same (c.crowds_header-in-HeaderName.ensures groups spec names said read))

pub returns-in-Lead : goal.returns-in-Lead
returns-in-Lead c = λ p holds.
    let d = c.args.self.now in
    let lead = c.in-Lead.lead in
    let (item, pin, conn) = elsewhere p (place.Lead lead) (holds-place c.args.place d p holds ∙ c.in-Lead.is) (λ e. absurd cc) (λ e. absurd cc) (λ e. absurd cc) in
    let (kept, (head, items, part, is, at, led, early, body)) = subst (λ at. HoldsAt at d p) c.in-Lead.is holds in
    let takes : takes_name lead ≡ true → (range : Option Range) × IsDeclaring (spelled p) range × (option_map span_of range ≡ d.lead.span) × Decides c.crowds_items.result (Crowds (spelled p) c.args.name.now) = λ may.
    let start = begins (in_item head items) d.lead part c.args.name.now lead (takes_name lead) at refl may led in
    let form : spelled p ≡ at_declared head items start.spec [] = ap spelled is ∙ declaring_form head items (leading part) start.spec [] (at_part lead_phrase (leading part) start.spec start.says) in
    let decides = c.crowds_items.ensures head items start.spec [] start.keeps early (body-begins d head items start.spec body) in
    declared_as (spelled p) _ c.args.name.now start.spec.range d.lead.span c.crowds_items.result form (inr (head, items, start.spec.lead, [], refl)) start.keeps.1.same decides in
    c.of_led-in-Lead.ensures (spelled p) kept (takes, λ may_not. not_declaring p (ap range_here is ∙ no_range_item part (ap takes_name at ∙ may_not))) item pin conn

pub returns-in-Declared : goal.returns-in-Declared
returns-in-Declared c = λ p holds.
    let (kept, (head, items, spec, row, is, said, early, body)) = subst (λ at. HoldsAt at c.args.self.now p) c.in-Declared.is holds in
    let names = all_of row in
    let form : spelled p ≡ at_declared head items spec names = ap spelled is ∙ declaring_form head items (going spec row) spec names (at_part lead_phrase (going spec row) spec refl) in
    subst (λ xs. IsFaultAt xs (record { lexeme = Name c.args.name.now; place = c.args.at }) c.of_declared-in-Declared.result) (sym form)
    (c.of_declared-in-Declared.ensures (at_declared head items spec names) spec.range (subst (KeepsNames c.args.self.now.known) form kept) (inr (head, items, spec.lead, names, refl)) said.1.same (c.crowds_items-in-Declared.ensures head items spec names said early body))

pub returns-in_default : goal.returns-in_default
returns-in_default c = λ p holds.
    let here = holds-place c.args.place c.args.self.now p holds in
    let at = sym here in
    let (item, pin, conn) = elsewhere p c.args.place here c.in_default.not-Item c.in_default.not-Pin c.in_default.not-Connection in
    let free : (range : Option Range) → ¬ IsDeclaring (spelled p) range = λ range declares. elim (declares_by p range (declaring-here p range declares)) [
      | inl (lead, is) ↦ c.in_default.not-HeaderLead lead (at ∙ is)
      | inr more ↦ elim more [
        | inl is ↦ c.in_default.not-HeaderName (at ∙ is)
        | inr rest ↦ elim rest [
          | inl (lead, is) ↦ c.in_default.not-Lead lead (at ∙ is)
          | inr is ↦ c.in_default.not-Declared (at ∙ is)
        ]
      ]
    ] in
    c.of_plain.ensures (spelled p) holds.0 free item pin conn
