use Rattle.ncl_verdict.proofs.Terms.{Releases, on_ok_weaker, subst, sym, ◌∙◌}
use Rattle.ncl_verdict.proofs.AskingLaws.{asked-back, asked-kept, fits-asked, ready-back, within-back}
use Rattle.ncl_verdict.proofs.asking.asked_word.Goals as goal

-- what is too much over earlier variants is asked again over Base alone
pub word_over-requires-in-Err-Full-clause-base : goal.word_over-requires-in-Err-Full-clause-base
word_over-requires-in-Err-Full-clause-base g c =
    let asked = asked-kept c.word_over.ensures.kept c.requires.asked in
    (ready-back (subst (Releases _ _) c.start-start.ensures c.release.ensures) asked).values

pub returns-in-Ok-clause-fits : goal.returns-in-Ok-clause-fits
returns-in-Ok-clause-fits g c = fits-asked c.facts.ensures c.requires.asked c.args.variant c.in-Ok.ensures.fits

pub returns-in-Ok-clause-asked : goal.returns-in-Ok-clause-asked
returns-in-Ok-clause-asked g c = c.make_room.ensures _ c.args.asked.now (sym c.start-start.ensures) (asked-kept c.word_over.ensures.kept c.requires.asked)

pub returns-in-Err-Memory-clause-asked : goal.returns-in-Err-Memory-clause-asked
returns-in-Err-Memory-clause-asked g c = asked-kept c.word_over.ensures.kept c.requires.asked

pub returns-in-Err-Full-clause-full : goal.returns-in-Err-Full-clause-full
returns-in-Err-Full-clause-full g c = λ full.
    let asked = asked-kept c.word_over.ensures.kept c.requires.asked in
    within-back (subst (Releases _ _) c.start-start.ensures c.release.ensures) asked c.args.variant ∙ c.word_over-in-Err-Full.ensures.full full

pub returns-in-Err-Full-clause-fits : goal.returns-in-Err-Full-clause-fits
returns-in-Err-Full-clause-fits g c =
    let asked = asked-kept c.word_over.ensures.kept c.requires.asked in
    on_ok_weaker c.word_over-in-Err-Full.result (λ fit. within-back (subst (Releases _ _) c.start-start.ensures c.release.ensures) asked c.args.variant ∙ fit) c.word_over-in-Err-Full.ensures.fits

pub returns-in-Err-Full-clause-asked : goal.returns-in-Err-Full-clause-asked
returns-in-Err-Full-clause-asked g c =
    let asked = asked-kept c.word_over.ensures.kept c.requires.asked in
    asked-kept c.word_over-in-Err-Full.ensures.kept (asked-back (subst (Releases _ _) c.start-start.ensures c.release.ensures) asked)
