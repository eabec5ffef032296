use Rattle.ncl_blif.proofs.Terms.{Some, ap, err_from_is_err_and, first_field, inl, inr, is_end, length, length-map, sym, ⊎_elim, ◌||◌, ◌∙◌}
use Rattle.ncl_blif.proofs.Commands.{command-is, names-two}
use Rattle.ncl_blif.proofs.PartSteps.{with_part-is, twins-after, fault-twice, fault-rows, ended-more}
use Rattle.ncl_blif.proofs.draft_body.DraftBody.add_part.Goals as goal

pub add_command-requires-clause-fields : goal.add_command-requires-clause-fields
add_command-requires-clause-fields c = λ names.
    let part = c.args.part.now in
    let field = ap first_field (sym c.head-head.ensures) ∙ c.in-Some.ensures in
    let count = sym (length-map c.fields.result.now (λ field. field.now)) ∙ ap length c.fields.ensures ∙ ap (λ head. length head.fields) c.head-head.ensures in
    names-two part.head names (λ one. c.is_malformed.ensures.names part.head field names c.if-is_malformed.false (count ∙ one))

pub returns-in_err-add_command : goal.returns-in_err-add_command
returns-in_err-add_command c = λ before said ended.
    let part = c.args.part.now in
    let field = ap first_field (sym c.head-head.ensures) ∙ c.in-Some.ensures in
    let count = sym (length-map c.fields.result.now (λ field. field.now)) ∙ ap length c.fields.ensures ∙ ap (λ head. length head.fields) c.head-head.ensures in
    let command = command-is c.in-Some.command part.head field in
    let formed = sym (c.is_malformed.ensures.malformed before part.head field count ended) ∙ c.if-is_malformed.false in
    let twins = twins-after _ before part said in
    let p = err_from_is_err_and c.from_residual.result c.from_residual.ensures.1 in
    rw (p.1, p.2) (⊎_elim (λ memory. inl memory) (⊎_elim
    (λ twice. inr (fault-twice before part command formed (twins ∙ twice.0) ∙ ap Some (sym twice.1)))
    (λ rows. inr (fault-rows before part command formed (twins ∙ rows.0) ∙ rows.1)))
    c.in_err-add_command.ensures)

pub returns : goal.returns
returns c = λ before said ended.
    let part = c.args.part.now in
    let field = ap first_field (sym c.head-head.ensures) ∙ c.in-Some.ensures in
    let count = sym (length-map c.fields.result.now (λ field. field.now)) ∙ ap length c.fields.ensures ∙ ap (λ head. length head.fields) c.head-head.ensures in
    let command = command-is c.in-Some.command part.head field in
    let formed = sym (c.is_malformed.ensures.malformed before part.head field count ended) ∙ c.if-is_malformed.false in
    let added = c.in_ok-add_command.ensures in (
      added.0,
      added.1 ∙ with_part-is _ before part said,
      fault-rows before part command formed (twins-after _ before part said ∙ added.2) ∙ added.3,
      ap (λ b. c.args.ended || b) (c.is_end.ensures part.head field) ∙ sym (ended-more before part ∙ ap (λ b. b || is_end part.head) (sym ended)),
    )
