use Rattle.ncl_reader.proofs.DraftSteps.{refl, sym, ap, ◌∙◌, subst, inr, inl, false≢true, cell_name_of, Name, meant, Clashes, Partial, inside, opened, netted, spelled, against, kept_here, others-opened, taken, untaken, not_declaring, plain_rule, range_here}
use Rattle.ncl_reader.specs.declared.place.Place.TheVariants as place
use Rattle.ncl_reader.proofs.draft.Draft.at_net.Goals as goal

pub returns-in_default : goal.returns-in_default
returns-in_default c = λ p (kept, (head, items, conns, is, body, are)).
    untaken place.Net p (inside head items (opened (cell_name_of c.args.self.now.instance.kind) c.args.self.now.instance.name.now conns c.args.self.now.instance.pin.now)) (meant c.args.lexeme.now) c.args.self.now is (others-opened head items (cell_name_of c.args.self.now.instance.kind) c.args.self.now.instance.name.now conns c.args.self.now.instance.pin.now (meant c.args.lexeme.now) c.in_default.ensures) (kept, (head, items, conns, is, body, are))

pub returns-then-clashes : goal.returns-then-clashes
returns-then-clashes c = λ p (kept, (head, items, conns, is, body, are)).
    let x = c.in-Some.name.now in
    let tree : Partial = inside head items (opened (cell_name_of c.args.self.now.instance.kind) c.args.self.now.instance.name.now conns c.args.self.now.instance.pin.now) in
    let clashes = (c.clashes.ensures (spelled p) kept (not_declaring p (ap range_here is))).0 c.if-clashes.true in
    against place.Net p tree (meant c.args.lexeme.now) c.args.self.now is (Name x) c.in-Some.ensures (inr (inr (inl (subst (λ q. Clashes (spelled q) x) is clashes)))) (kept, (head, items, conns, is, body, are))

pub returns : goal.returns
returns c = λ p (kept, (head, items, conns, is, body, are)).
    let x = c.in-Some.name.now in
    let tree : Partial = inside head items (opened (cell_name_of c.args.self.now.instance.kind) c.args.self.now.instance.name.now conns c.args.self.now.instance.pin.now) in
    let none = not_declaring p (ap range_here is) in
    let fine : Clashes (spelled p) x → ⊥ = λ clashes. false≢true (sym c.if-clashes.false ∙ (c.clashes.ensures (spelled p) kept none).1 clashes) in
    taken p tree (inside head items (netted (cell_name_of c.args.self.now.instance.kind) c.args.self.now.instance.name.now conns c.args.self.now.instance.pin.now x)) (meant c.args.lexeme.now) (Name x) place.AfterNet _ is c.in-Some.ensures refl
    (kept_here _ (spelled p) x (meant c.args.lexeme.now) c.in-Some.ensures (c.in_ok-join.ensures (spelled p) kept (head, items, (cell_name_of c.args.self.now.instance.kind), c.args.self.now.instance.name.now, conns, c.args.self.now.instance.pin.now, ap spelled is) fine)) (head, items, conns, refl, (body.0, record { ansi = body.1.ansi; header = body.1.header; cells = body.1.cells }), are)
    (plain_rule tree x refl (λ none. none) (λ clashes. fine (subst (λ q. Clashes (spelled q) x) (sym is) clashes)))
