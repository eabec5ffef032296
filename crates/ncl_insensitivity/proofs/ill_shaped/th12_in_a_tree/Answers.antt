use Rattle.ncl_insensitivity.proofs.IllShapedLaws.{Raise, asks_too_early, fire, refl, taken_back_is_unsafe, two_offered, with_th12}
use Rattle.ncl_insensitivity.proofs.ill_shaped.th12_in_a_tree.Goals as goal

pub returns-clause-not_safe : goal.returns-clause-not_safe
returns-clause-not_safe c =
    taken_back_is_unsafe with_th12 two_offered asks_too_early (refl, (refl, tt))
    (refl, (refl, (refl, (refl, (refl, (refl, (refl, (refl, (refl, (refl, (refl, (refl, (refl, (refl, (refl, (refl, (refl, tt)))))))))))))))))
    (Raise 1) (fire 3) (record { differ = λ same. absurd cc; can = refl; other_can = refl; other_lost = refl })
