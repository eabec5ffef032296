use Rattle.ncl_reader.proofs.DraftSteps.{◌≡◌, None, subst, Draft, Place, Read, meant, HoldsAt, TakesOrBreaks, Partial, ended, others-ended, untaken}
use Rattle.ncl_reader.specs.declared.place.Place.TheVariants as place
use Rattle.ncl_reader.proofs.draft.Draft.step.Goals as goal

ended_breaks : (draft : Draft) (read : Read) (at : Place) (p : Partial) → at ≡ place.End → HoldsAt at draft p → TakesOrBreaks at p (meant read) None draft
ended_breaks draft read at p e holds =
    let (kept, (head, items, is, body)) = subst (λ a. HoldsAt a draft p) e holds in
    untaken at p (ended head items) (meant read) draft is (others-ended head items read) holds

pub returns-in-End : goal.returns-in-End
returns-in-End c = λ p holds. ended_breaks c.args.self.now c.args.lexeme.now c.args.place p c.in-End.is holds
