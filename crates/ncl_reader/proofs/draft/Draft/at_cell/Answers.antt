use Rattle.ncl_reader.proofs.DraftSteps.{map, inl, refl, sym, ap, ◌∙◌, subst, false≢true, Name, joint_of, Clashes, meant, at_item, inside, celled, spelled, range_here, opens, not_declaring, not_net, may_stand, NameAt, against, clashing, taken_name}
use Rattle.ncl_reader.specs.declared.place.Place.TheVariants as place
use Rattle.ncl_reader.proofs.draft.Draft.at_cell.Goals as goal

pub returns-in_default : goal.returns-in_default
returns-in_default c = λ named p (kept, (head, items, is, body)).
    against place.Item p (at_item head items) (meant c.args.lexeme.now) c.args.self.now is (Name c.args.name.now) named (inl c.in_default.ensures.none) (kept, (head, items, is, body))

pub returns-then-clashes : goal.returns-then-clashes
returns-then-clashes c = λ named p (kept, (head, items, is, body)).
    clashing place.Item p (meant c.args.lexeme.now) c.args.name.now c.args.self.now named ((c.clashes.ensures (spelled p) kept (not_declaring p (ap range_here is))).0 c.if-clashes.true) (kept, (head, items, is, body))

pub returns : goal.returns
returns c = λ named p (kept, (head, items, is, body)).
    let x = c.args.name.now in
    let kind = c.in-Some.kind in
    let plain = not_declaring p (ap range_here is) in
    let fine : Clashes (spelled p) x → ⊥ = λ clashes. false≢true (sym c.if-clashes.false ∙ (c.clashes.ensures (spelled p) kept plain).1 clashes) in
    let new = record c.args.self.now { known = c.stand.new.self; instance = record c.args.self.now.instance { kind = kind; joins = c.clear.new.self } } in
    taken_name p (at_item head items) (inside head items (celled x)) (meant c.args.lexeme.now) x place.InstanceName new is named refl
    (c.in_ok-stand.ensures (spelled p) kept plain (not_net p (ap opens is)) fine)
    (head, items, ap (λ z. inside head items (celled z)) (sym c.in-Some.ensures.some), (body.0, record { ansi = body.1.ansi; header = body.1.header; cells = body.1.cells }), ap (map joint_of) c.clear.ensures.items)
    (may_stand p x (ap range_here is) (λ b. subst (λ q. NameAt q x) is b kind c.in-Some.ensures.some) fine)
