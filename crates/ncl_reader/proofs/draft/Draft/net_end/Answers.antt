use Rattle.ncl_reader.proofs.DraftSteps.{◌∷◌, [], ◌++◌, Some, refl, sym, ◌∙◌, subst, false≢true, cell_name_of, RParen, Mark, Conn, meant, AreJoins, inside, picked, joined, bit_joint, others-picked, taken_mark, untaken, joins-more}
use Rattle.ncl_reader.specs.declared.place.Place.TheVariants as place
use Rattle.ncl_reader.proofs.draft.Draft.net_end.Goals as goal

pub returns-then-not-is_mark : goal.returns-then-not-is_mark
returns-then-not-is_mark c = λ p (kept, (digits, (head, items, conns, is, body, are), value)).
    untaken place.NetEnd p (inside head items (picked (cell_name_of c.args.self.now.instance.kind) c.args.self.now.instance.name.now conns c.args.self.now.instance.pin.now c.args.self.now.instance.net.now digits)) (meant c.args.lexeme.now) c.args.self.now is (others-picked head items (cell_name_of c.args.self.now.instance.kind) c.args.self.now.instance.name.now conns c.args.self.now.instance.pin.now c.args.self.now.instance.net.now digits (meant c.args.lexeme.now) (λ e. false≢true (sym c.if-not-is_mark.true ∙ c.is_mark.ensures.1 e))) (kept, (digits, (head, items, conns, is, body, are), value))

pub returns : goal.returns
returns c = λ p (kept, (digits, (head, items, conns, is, body, are), value)).
    let conn : Conn = record { pin = c.args.self.now.instance.pin.now; net = record { name = c.args.self.now.instance.net.now; index = Some digits } } in
    taken_mark p (inside head items (picked (cell_name_of c.args.self.now.instance.kind) c.args.self.now.instance.name.now conns c.args.self.now.instance.pin.now c.args.self.now.instance.net.now digits)) (inside head items (joined (cell_name_of c.args.self.now.instance.kind) c.args.self.now.instance.name.now conns conn)) (meant c.args.lexeme.now) (Mark RParen) place.AfterConnection _ is (c.is_mark.ensures.0 c.if-not-is_mark.false) refl
    (λ x e. absurd cc) kept
    (head, items, conns, conn, refl, (body.0, record { ansi = body.1.ansi; header = body.1.header; cells = body.1.cells }), subst (AreJoins (conns ++ conn ∷ [])) (sym c.in_ok-push.ensures.items) (joins-more conns c.args.self.now.instance.joins.items conn _ are (bit_joint c.args.self.now.instance.pin.now c.args.self.now.instance.net.now digits c.args.self.now.instance.index value)))
    (λ none. none)
