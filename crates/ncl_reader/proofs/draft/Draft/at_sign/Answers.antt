use Rattle.ncl_reader.proofs.DraftSteps.{◌≡◌, ◌≢◌, None, refl, sym, ap, ◌∙◌, subst, Place, Sign, Read, meant, TakesOrBreaks, after_token, sign_step}
use Rattle.ncl_reader.specs.declared.lexeme.Lexeme.TheVariants as read
use Rattle.ncl_reader.proofs.draft.Draft.at_sign.Goals as goal

no_sign : (at : Place) (t : Read) → ((sign : Sign) → t ≢ read.Mark sign) → after_token at (meant t) ≡ None
no_sign at (read.Word word) none = refl
no_sign at (read.Name name) none = refl
no_sign at (read.Number number) none = refl
no_sign at (read.Mark sign) none = absurd (none sign refl)

pub returns-in-Mark : goal.returns-in-Mark
returns-in-Mark c = λ p holds.
    let t = meant c.args.lexeme.now in
    let after = ap (λ l. after_token c.args.place (meant l)) c.in-Mark.is ∙ sym c.after_sign.ensures in
    subst (λ next. TakesOrBreaks c.args.place p t next c.args.self.now) after (sign_step c.args.place c.args.self.now t p c.requires holds)

pub returns-in_default : goal.returns-in_default
returns-in_default c = λ p holds.
    let t = meant c.args.lexeme.now in
    let after = no_sign c.args.place c.args.lexeme.now c.in_default.not-Mark in
    subst (λ next. TakesOrBreaks c.args.place p t next c.args.self.now) after (sign_step c.args.place c.args.self.now t p c.requires holds)
