use Rattle.ncl_blif.proofs.Terms.{[], ap, append-nil, append_assoc, cond, eqb-true, fields_of, is_continued, length, map, sym, ◌++◌, ◌∙◌, ◌∷◌, ◌≡◌}
use Rattle.ncl_blif.proofs.TextLines.{begun-none, begun-more, first-whole, first-end}
use Rattle.ncl_blif.proofs.line.next_line.Goals as goal

pub loop-rest-init : goal.loop-rest-init
loop-rest-init c = ([], sym (append-nil _), begun-none c.args.number c.args.text.now c.requires.some)

pub loop-rest-preserved : goal.loop-rest-preserved
loop-rest-preserved c =
    let part = c.without_mark-is_continued.result.0.now in
    let piece : c.first_piece.result.0.now ≡ part ++ 92 ∷ [] = c.without_mark-is_continued.ensures.front ∙ ap (λ b. cond b (part ++ 92 ∷ []) part) c.if-not-is_continued.false in
    let (said, fields, begun) = c.loop-rest.invariant in
    let old = map (λ field. field.now) c.args.fields.now.items in (
      said ++ fields_of part,
      c.in_ok-push_fields.ensures ∙ ap (λ ws. ws ++ fields_of part) fields ∙ append_assoc old said (fields_of part),
      begun-more _ _ _ _ _ c.first_piece.ensures.0 part _ begun c.first_piece.ensures.1 (sym piece ∙ c.first_piece.ensures.2) c.first_piece.ensures.3,
    )

pub returns-then-not-is_continued : goal.returns-then-not-is_continued
returns-then-not-is_continued c =
    let part = c.without_mark-is_continued.result.0.now in
    let piece : c.first_piece.result.0.now ≡ part = c.without_mark-is_continued.ensures.front ∙ ap (λ b. cond b (part ++ 92 ∷ []) part) c.if-not-is_continued.true in
    let mark = sym piece ∙ c.first_piece.ensures.2 in
    let (said, fields, begun) = c.loop-rest.invariant in
    let old = map (λ field. field.now) c.args.fields.now.items in
    let first = first-whole _ _ _ _ _ c.first_piece.ensures.0 part _ begun c.first_piece.ensures.1 mark (ap is_continued (sym piece) ∙ sym c.without_mark-is_continued.ensures.mark ∙ c.if-not-is_continued.true) c.first_piece.ensures.3 in (
      said ++ fields_of part,
      c.in_ok-push_fields.ensures ∙ ap (λ ws. ws ++ fields_of part) fields ∙ append_assoc old said (fields_of part),
      first.said,
      first.count,
      first.shorter,
    )

pub returns : goal.returns
returns c =
    let end : length c.loop-rest.rest.now ≡ 0 = eqb-true (length c.loop-rest.rest.now) 0 (sym c.loop-rest-test.ensures) in
    let (said, fields, begun) = c.loop-rest.invariant in
    let first = first-end _ _ _ _ _ c.requires.some begun end in
    (said, fields, first.said, first.count, first.shorter)
