use Rattle.ncl_insensitivity.proofs.IllShapedLaws.{arith, cells_differ, excites_both, fire, one_offered, refl, taken_back_is_unsafe, with_two_drivers}
use Rattle.ncl_insensitivity.proofs.ill_shaped.two_drivers_of_a_net.Goals as goal

pub returns-clause-not_safe : goal.returns-clause-not_safe
returns-clause-not_safe c =
    taken_back_is_unsafe with_two_drivers one_offered excites_both (refl, tt)
    (refl, (refl, (refl, (refl, (refl, (refl, tt))))))
    (fire 6) (fire 14) (record { differ = cells_differ 6 14 (omega arith); can = refl; other_can = refl; other_lost = refl })
