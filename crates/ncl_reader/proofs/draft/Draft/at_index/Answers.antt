use Rattle.ncl_reader.proofs.DraftSteps.{inl, inr, refl, sym, ◌∙◌, subst, digits_value, false≢true, cell_name_of, Number, KeepsNames, meant, IsVector, span_of, Covers, Partial, inside, indexing, indexed, spelled, against, index_rule, others-indexing, taken_mark, untaken}
use Rattle.ncl_reader.specs.declared.place.Place.TheVariants as place
use Rattle.ncl_reader.proofs.draft.Draft.at_index.Goals as goal

pub returns-in_default : goal.returns-in_default
returns-in_default c = λ p (kept, ((head, items, conns, is, body, are), vector)).
    untaken place.Index p (inside head items (indexing (cell_name_of c.args.self.now.instance.kind) c.args.self.now.instance.name.now conns c.args.self.now.instance.pin.now c.args.self.now.instance.net.now)) (meant c.args.lexeme.now) c.args.self.now is (others-indexing head items (cell_name_of c.args.self.now.instance.kind) c.args.self.now.instance.name.now conns c.args.self.now.instance.pin.now c.args.self.now.instance.net.now (meant c.args.lexeme.now) c.in_default.ensures) (kept, ((head, items, conns, is, body, are), vector))

pub returns-in_default-net_range : goal.returns-in_default-net_range
returns-in_default-net_range c = λ p (kept, ((head, items, conns, is, body, are), vector)).
    absurd (c.in_default-net_range.ensures (spelled p) kept vector.0 vector.1)

pub returns-then-is_outside : goal.returns-then-is_outside
returns-then-is_outside c = λ p (kept, ((head, items, conns, is, body, are), vector)).
    let tree : Partial = inside head items (indexing (cell_name_of c.args.self.now.instance.kind) c.args.self.now.instance.name.now conns c.args.self.now.instance.pin.now c.args.self.now.instance.net.now) in
    let digits = c.in-Some.number.digits.now in
    let (range, stands, span) = c.in-Some-net_range.ensures (spelled p) kept in
    let outside = c.is_outside.ensures.0 c.if-is_outside.true in
    against place.Index p tree (meant c.args.lexeme.now) c.args.self.now is (Number digits) c.in-Some.ensures
    (inr (inr (range, subst (λ q. IsVector (spelled q) c.args.self.now.instance.net.now range) is stands, λ covers. outside (subst (λ s. Covers s (digits_value 10 digits)) span covers))))
    (kept, ((head, items, conns, is, body, are), vector))

pub returns-in_default-small : goal.returns-in_default-small
returns-in_default-small c = λ p (kept, ((head, items, conns, is, body, are), vector)).
    against place.Index p (inside head items (indexing (cell_name_of c.args.self.now.instance.kind) c.args.self.now.instance.name.now conns c.args.self.now.instance.pin.now c.args.self.now.instance.net.now)) (meant c.args.lexeme.now) c.args.self.now is (Number c.in-Some.number.digits.now) c.in-Some.ensures (inl c.in_default-small.ensures) (kept, ((head, items, conns, is, body, are), vector))

pub returns : goal.returns
returns c = λ p (kept, ((head, items, conns, is, body, are), vector)).
    let tree : Partial = inside head items (indexing (cell_name_of c.args.self.now.instance.kind) c.args.self.now.instance.name.now conns c.args.self.now.instance.pin.now c.args.self.now.instance.net.now) in
    let digits = c.in-Some.number.digits.now in
    let (range, stands, span) = c.in-Some-net_range.ensures (spelled p) kept in
    let inner : (Covers (span_of range) (digits_value 10 digits) → ⊥) → ⊥ = λ fails. false≢true (sym c.if-is_outside.false ∙ c.is_outside.ensures.1 (λ covers. fails (subst (λ s. Covers s (digits_value 10 digits)) (sym span) covers))) in
    taken_mark p tree (inside head items (indexed (cell_name_of c.args.self.now.instance.kind) c.args.self.now.instance.name.now conns c.args.self.now.instance.pin.now c.args.self.now.instance.net.now digits)) (meant c.args.lexeme.now) (Number digits) place.AfterIndex _ is c.in-Some.ensures refl
    (λ x e. absurd cc) kept (digits, (head, items, conns, refl, (body.0, record { ansi = body.1.ansi; header = body.1.header; cells = body.1.cells }), are), c.in-Some-small.ensures.0)
    (index_rule head items (cell_name_of c.args.self.now.instance.kind) c.args.self.now.instance.name.now conns c.args.self.now.instance.pin.now c.args.self.now.instance.net.now c.args.self.now.known digits range (subst (λ q. KeepsNames c.args.self.now.known (spelled q)) is kept) (subst (λ q. IsVector (spelled q) c.args.self.now.instance.net.now range) is stands) c.in-Some-small.ensures.1 inner)
