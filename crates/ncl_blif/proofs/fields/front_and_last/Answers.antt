use Rattle.ncl_blif.proofs.Terms.{[], ap, front_fields, last_field, map, map-append, sym, ◌∙◌, ◌∷◌}
use Rattle.ncl_blif.proofs.Names.{front_fields-end, last_field-end}
use Rattle.ncl_blif.proofs.fields.front_and_last.Goals as goal

pub returns : goal.returns
returns c =
    let front = map (λ field. field.now) c.in_ok-last.front.now in
    let last = c.in_ok-last.last.now.now in
    let said = ap (map (λ field. field.now)) c.in_ok-last.ensures.cases.0 ∙ map-append (λ field. field.now) c.in_ok-last.front.now (c.in_ok-last.last.now ∷ []) in
    (sym (ap front_fields said ∙ front_fields-end front last), sym (ap last_field said ∙ last_field-end front last))
