use Rattle.ncl_blif.proofs.Terms.{MatchResult-weaker, ap, cover_of, drivers_of, false, field_of, has_twins, inl, inr, is_names, later_fields, map, said_by, sym, ⊎_elim, ◌++◌, ◌∙◌, ◌≡◌}
use Rattle.ncl_blif.proofs.Commands.{with_part, with_part-outputs, with_part-names, cover-twins}
use Rattle.ncl_blif.proofs.draft_body.DraftBody.add_command.Goals as goal

pub returns-in_ok-add_outputs-in-Outputs : goal.returns-in_ok-add_outputs-in-Outputs
returns-in_ok-add_outputs-in-Outputs c =
    let old = said_by c.args.self.now in
    let part = c.args.part.now in
    let field = c.requires.field ∙ ap field_of c.in-Outputs.is in
    let fields = c.later_fields-in-Outputs.ensures ∙ ap later_fields c.head-head.ensures in
    let line = c.number-in-Outputs.ensures ∙ ap (λ head. head.number) c.head-head.ensures in
    let said = c.in_ok-add_outputs-in-Outputs.ensures.1
    ∙ (λ i. record old { outputs = old.outputs ++ map (λ signal. record { line = line i; signal = signal }) (fields i) })
    ∙ sym (with_part-outputs old part field) in
    let once : has_twins (drivers_of (with_part old part)) ≡ false = sym (ap (λ model. has_twins (drivers_of model)) said) ∙ c.in_ok-add_outputs-in-Outputs.ensures.0.once in
    let none : is_names part.head ≡ false = rw field in
    let rows = rw c.rows-in-Outputs.ensures at (c.no_rows-in-Outputs.ensures part.head none) in
    MatchResult-weaker c.no_rows-in-Outputs.result rows (λ x is. (c.in_ok-add_outputs-in-Outputs.ensures.0, said, once, is)) (λ fault is. inr (inr (once, is)))

pub returns-in-Names : goal.returns-in-Names
returns-in-Names c =
    let old = said_by c.args.self.now in
    let part = c.args.part.now in
    let whole = with_part-names old part (c.requires.field ∙ ap field_of c.in-Names.is) in
    let twins = ap (λ model. has_twins (drivers_of model)) whole ∙ cover-twins old (cover_of part) c.requires.kept.once in
    MatchResult-weaker c.add_cover.result c.add_cover.ensures
    (λ x is. (is.0, is.1 ∙ sym whole, twins ∙ is.2, is.3))
    (λ fault is. ⊎_elim (λ memory. inl memory) (⊎_elim (λ twice. inr (inl (twins ∙ twice.0, twice.1))) (λ rows. inr (inr (twins ∙ rows.0, rows.1)))) is)
