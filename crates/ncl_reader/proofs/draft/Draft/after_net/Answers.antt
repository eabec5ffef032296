use Rattle.ncl_reader.proofs.DraftSteps.{not, ◌∷◌, [], ◌++◌, None, refl, sym, ap, ◌∙◌, subst, false≢true, cell_name_of, RParen, LBracket, Mark, Conn, meant, IsVector, AreJoins, Partial, inside, netted, indexing, joined, spelled, against, others-netted, taken_mark, untaken, vector_found, vector_missing, vector_next, joins-more}
use Rattle.ncl_reader.specs.declared.place.Place.TheVariants as place
use Rattle.ncl_reader.proofs.draft.Draft.after_net.Goals as goal

pub returns-then-is_none : goal.returns-then-is_none
returns-then-is_none c = λ p (kept, (head, items, conns, is, body, are)).
    let tree : Partial = inside head items (netted (cell_name_of c.args.self.now.instance.kind) c.args.self.now.instance.name.now conns c.args.self.now.instance.pin.now c.args.self.now.instance.net.now) in
    let scalar = vector_missing (spelled p) c.args.self.now.instance.net.now c.net_range-range.result (c.net_range-range.ensures (spelled p) kept) (c.is_none.ensures ∙ ap not c.if-is_none.true) in
    against place.AfterNet p tree (meant c.args.lexeme.now) c.args.self.now is (Mark LBracket) (c.is_mark.ensures.0 c.if-is_mark.true)
    (λ range vector. scalar range (subst (λ q. IsVector (spelled q) c.args.self.now.instance.net.now range) (sym is) vector))
    (kept, (head, items, conns, is, body, are))

pub returns-then-is_mark : goal.returns-then-is_mark
returns-then-is_mark c = λ p (kept, (head, items, conns, is, body, are)).
    let tree : Partial = inside head items (netted (cell_name_of c.args.self.now.instance.kind) c.args.self.now.instance.name.now conns c.args.self.now.instance.pin.now c.args.self.now.instance.net.now) in
    let (range, vector) = vector_found (spelled p) c.args.self.now.instance.net.now c.net_range-range.result (c.net_range-range.ensures (spelled p) kept) (c.is_none.ensures ∙ ap not c.if-is_none.false) in
    let here : IsVector (spelled tree) c.args.self.now.instance.net.now range = subst (λ q. IsVector (spelled q) c.args.self.now.instance.net.now range) is vector in
    taken_mark p tree (inside head items (indexing (cell_name_of c.args.self.now.instance.kind) c.args.self.now.instance.name.now conns c.args.self.now.instance.pin.now c.args.self.now.instance.net.now)) (meant c.args.lexeme.now) (Mark LBracket) place.Index c.args.self.now is (c.is_mark.ensures.0 c.if-is_mark.true) refl
    (λ x e. absurd cc) kept ((head, items, conns, refl, body, are), (range, vector_next head items (cell_name_of c.args.self.now.instance.kind) c.args.self.now.instance.name.now conns c.args.self.now.instance.pin.now c.args.self.now.instance.net.now range here))
    (λ scalar. scalar range here)

pub returns-then-not-is_mark : goal.returns-then-not-is_mark
returns-then-not-is_mark c = λ p (kept, (head, items, conns, is, body, are)).
    untaken place.AfterNet p (inside head items (netted (cell_name_of c.args.self.now.instance.kind) c.args.self.now.instance.name.now conns c.args.self.now.instance.pin.now c.args.self.now.instance.net.now)) (meant c.args.lexeme.now) c.args.self.now is
    (others-netted head items (cell_name_of c.args.self.now.instance.kind) c.args.self.now.instance.name.now conns c.args.self.now.instance.pin.now c.args.self.now.instance.net.now (meant c.args.lexeme.now) (λ e. false≢true (sym c.if-not-is_mark.true ∙ c.is_mark-2.ensures.1 e)) (λ e. false≢true (sym c.if-is_mark.false ∙ c.is_mark.ensures.1 e)))
    (kept, (head, items, conns, is, body, are))

pub returns-then-is_some : goal.returns-then-is_some
returns-then-is_some c = λ p (kept, (head, items, conns, is, body, are)).
    let tree : Partial = inside head items (netted (cell_name_of c.args.self.now.instance.kind) c.args.self.now.instance.name.now conns c.args.self.now.instance.pin.now c.args.self.now.instance.net.now) in
    let (range, vector) = vector_found (spelled p) c.args.self.now.instance.net.now c.net_range-range.result (c.net_range-range.ensures (spelled p) kept) (sym c.is_some.ensures ∙ c.if-is_some.true) in
    against place.AfterNet p tree (meant c.args.lexeme.now) c.args.self.now is (Mark RParen) (c.is_mark-2.ensures.0 c.if-not-is_mark.false)
    (range, subst (λ q. IsVector (spelled q) c.args.self.now.instance.net.now range) is vector)
    (kept, (head, items, conns, is, body, are))

pub returns : goal.returns
returns c = λ p (kept, (head, items, conns, is, body, are)).
    let tree : Partial = inside head items (netted (cell_name_of c.args.self.now.instance.kind) c.args.self.now.instance.name.now conns c.args.self.now.instance.pin.now c.args.self.now.instance.net.now) in
    let scalar = vector_missing (spelled p) c.args.self.now.instance.net.now c.net_range-range.result (c.net_range-range.ensures (spelled p) kept) (sym c.is_some.ensures ∙ c.if-is_some.false) in
    let conn : Conn = record { pin = c.args.self.now.instance.pin.now; net = record { name = c.args.self.now.instance.net.now; index = None } } in
    taken_mark p tree (inside head items (joined (cell_name_of c.args.self.now.instance.kind) c.args.self.now.instance.name.now conns conn)) (meant c.args.lexeme.now) (Mark RParen) place.AfterConnection _ is (c.is_mark-2.ensures.0 c.if-not-is_mark.false) refl
    (λ x e. absurd cc) kept
    (head, items, conns, conn, refl, (body.0, record { ansi = body.1.ansi; header = body.1.header; cells = body.1.cells }), subst (AreJoins (conns ++ conn ∷ [])) (sym c.in_ok-push.ensures.items) (joins-more conns c.args.self.now.instance.joins.items conn _ are refl))
    (λ (range, vector). scalar range (subst (λ q. IsVector (spelled q) c.args.self.now.instance.net.now range) (sym is) vector))
