use Rattle.ncl_insensitivity.proofs.IllShapedLaws.{Lower, fire, one_bit_seen, one_offered, refl, taken_back_is_unsafe, with_two_roots}
use Rattle.ncl_insensitivity.proofs.ill_shaped.two_roots_of_a_bank.Goals as goal

pub returns-clause-not_safe : goal.returns-clause-not_safe
returns-clause-not_safe c =
    taken_back_is_unsafe with_two_roots one_offered one_bit_seen (refl, tt)
    (refl, (refl, (refl, (refl, tt))))
    (Lower 1) (fire 3) (record { differ = λ same. absurd cc; can = refl; other_can = refl; other_lost = refl })
