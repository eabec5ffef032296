use Rattle.ncl_insensitivity.proofs.IllShapedLaws.{Lower, acknowledges_one_bit, bit_left_out_netlist, fire, one_offered, refl, taken_back_is_unsafe, without_a_bit}
use Rattle.ncl_insensitivity.proofs.ill_shaped.tree_without_a_bit.Goals as goal

pub returns-clause-netlist : goal.returns-clause-netlist
returns-clause-netlist c = bit_left_out_netlist

pub returns-clause-not_safe : goal.returns-clause-not_safe
returns-clause-not_safe c =
    taken_back_is_unsafe without_a_bit one_offered acknowledges_one_bit (refl, tt)
    (refl, (refl, (refl, (refl, (refl, tt)))))
    (Lower 1) (fire 3) (record { differ = λ same. absurd cc; can = refl; other_can = refl; other_lost = refl })
