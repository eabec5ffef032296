use Rattle.ncl_reader.proofs.DraftSteps.{◌∷◌, [], ◌++◌, Some, None, refl, sym, ◌∙◌, subst, flat_map, false≢true, cell_name_of, RParen, Comma, Mark, meant, joined_in, AreCellsOf, Closes, inside, joining, joined, closed, against, cells-more, others-joined, taken_mark, untaken, close_free}
use Rattle.ncl_reader.specs.declared.place.Place.TheVariants as place
use Rattle.ncl_reader.proofs.draft.Draft.after_connection.Goals as goal

pub returns-then-is_mark : goal.returns-then-is_mark
returns-then-is_mark c = λ p (kept, (head, items, conns, conn, is, body, are)).
    taken_mark p (inside head items (joined (cell_name_of c.args.self.now.instance.kind) c.args.self.now.instance.name.now conns conn)) (inside head items (joining (cell_name_of c.args.self.now.instance.kind) c.args.self.now.instance.name.now (conns ++ conn ∷ []))) (meant c.args.lexeme.now) (Mark Comma) place.Connection c.args.self.now is (c.is_mark.ensures.0 c.if-is_mark.true) refl
    (λ x e. absurd cc) kept (head, items, conns ++ conn ∷ [], refl, body, are) (λ none. none)

pub returns-then-not-is_mark : goal.returns-then-not-is_mark
returns-then-not-is_mark c = λ p (kept, (head, items, conns, conn, is, body, are)).
    untaken place.AfterConnection p (inside head items (joined (cell_name_of c.args.self.now.instance.kind) c.args.self.now.instance.name.now conns conn)) (meant c.args.lexeme.now) c.args.self.now is
    (others-joined head items (cell_name_of c.args.self.now.instance.kind) c.args.self.now.instance.name.now conns conn (meant c.args.lexeme.now) (λ e. false≢true (sym c.if-is_mark.false ∙ c.is_mark.ensures.1 e)) (λ e. false≢true (sym c.if-not-is_mark.true ∙ c.is_mark-2.ensures.1 e)))
    (kept, (head, items, conns, conn, is, body, are))

pub returns-in_default : goal.returns-in_default
returns-in_default c = λ p (kept, (head, items, conns, conn, is, body, are)).
    let left : Closes c.args.self.now.instance (conns ++ conn ∷ []) None = subst (λ r. Closes c.args.self.now.instance (conns ++ conn ∷ []) r) c.in_default.is (c.in_ok-cell.ensures (conns ++ conn ∷ []) are) in
    against place.AfterConnection p (inside head items (joined (cell_name_of c.args.self.now.instance.kind) c.args.self.now.instance.name.now conns conn)) (meant c.args.lexeme.now) c.args.self.now is (Mark RParen) (c.is_mark-2.ensures.0 c.if-not-is_mark.false)
    (c.args.self.now.instance.kind, refl, left)
    (kept, (head, items, conns, conn, is, body, are))

pub returns : goal.returns
returns c = λ p (kept, (head, items, conns, conn, is, body, are)).
    let closes : Closes c.args.self.now.instance (conns ++ conn ∷ []) (Some c.in-Some.cell) = subst (λ r. Closes c.args.self.now.instance (conns ++ conn ∷ []) r) c.in-Some.is (c.in_ok-cell.ensures (conns ++ conn ∷ []) are) in
    let read = body.1 in
    taken_mark p (inside head items (joined (cell_name_of c.args.self.now.instance.kind) c.args.self.now.instance.name.now conns conn)) (inside head items (closed (cell_name_of c.args.self.now.instance.kind) c.args.self.now.instance.name.now conns conn)) (meant c.args.lexeme.now) (Mark RParen) place.AfterInstance _ is (c.is_mark-2.ensures.0 c.if-not-is_mark.false) refl
    (λ x e. absurd cc) kept (
      head,
      items,
      conns,
      conn,
      refl,
      (
        body.0,
        record {
          ansi = read.ansi;
          header = read.header;
          cells = subst (λ cs. AreCellsOf (flat_map joined_in items ++ record { cell = (cell_name_of c.args.self.now.instance.kind); name = c.args.self.now.instance.name.now; conns = conns ++ conn ∷ [] } ∷ []) cs) (sym c.in_ok-push.ensures.items) (cells-more (flat_map joined_in items) c.args.self.now.cells.items _ c.in-Some.cell read.cells closes.1);
        },
      ),
    )
    (close_free head items c.args.self.now.instance.kind c.args.self.now.instance.name.now conns conn closes.0)
