use Rattle.ncl_verdict.proofs.Terms.{Releases, subst, sym}
use Rattle.ncl_verdict.proofs.AskingLaws.{asked-back}
use Rattle.ncl_verdict.proofs.asking.make_room.Goals as goal

pub returns-then-start-gt-SMALL_BASE : goal.returns-then-start-gt-SMALL_BASE
returns-then-start-gt-SMALL_BASE g c = λ limit asked same is. asked-back (subst (Releases _ _) (sym same) c.release.ensures) is
