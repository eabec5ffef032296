use Rattle.ncl_reader.proofs.Terms.{◌≡◌, ◌≢◌, Bool, Option, Some, None, sym, ◌∙◌, MatchOption}
use Rattle.ncl_reader.proofs.header.Header.direction.Goals as goal

told : (kept : Option (Option Bool)) (way : Option Bool) → kept ≡ Some way → MatchOption way ((output : Bool) → kept ≢ Some (Some output)) (λ output. kept ≡ Some (Some output))
told kept None e = λ output f. let bad : Some None ≡ Some (Some output) = sym e ∙ f in absurd cc
told kept (Some output) e = e

pub returns-in-Some : goal.returns-in-Some
returns-in-Some c = told _ c.in-Some.way (sym c.way.ensures ∙ c.in-Some.is)

pub returns-in-None : goal.returns-in-None
returns-in-None c = λ output f. let bad : None ≡ Some (Some output) = sym c.in-None.is ∙ c.way.ensures ∙ f in absurd cc
