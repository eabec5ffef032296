use Rattle.std.proofs.Common.{[], ◌∷◌, ◌∙◌}
use Rattle.ncl_plans.proofs.Cones.{leaves_known}
use Rattle.ncl_plans.proofs.evaluating.known_at.Goals as goal

pub returns : goal.returns
returns c = λ value respects is.
    c.in_ok-learn_all.ensures value respects
    (leaves_known value c.args.leaves c.args.word c.in_ok-known.known.items is (c.in_ok-known.ensures.items ∙ (λ i. c.fact-first.ensures i ∷ c.fact-second.ensures i ∷ c.fact-third.ensures i ∷ c.fact-fourth.ensures i ∷ [])))
