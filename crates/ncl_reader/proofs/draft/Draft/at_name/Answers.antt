use Rattle.ncl_reader.proofs.DraftSteps.{sym, subst, IfOk, meant, TakesOrBreaks, no_name}
use Rattle.ncl_reader.proofs.draft.Draft.at_name.Goals as goal

pub returns-in_default : goal.returns-in_default
returns-in_default c = λ p holds. no_name c.args.place c.args.self.now (meant c.args.lexeme.now) p c.requires c.in_default.ensures holds

pub returns : goal.returns
returns c = λ p holds.
    subst (λ t. IfOk c.at_plain.result (λ after. TakesOrBreaks c.args.place p t after c.at_plain.new.self)) (sym c.in-Some.ensures) (c.at_plain.ensures p holds)
