use Rattle.ncl_diagram.specs.Slot.{gates, kind_number}
use Rattle.ncl_diagram.proofs.Terms.{Kind, Th12, refl, tag_of, the_type, ◌+◌, ◌≡◌}
use Rattle.ncl_diagram.proofs.slot.kind_number.Goals as goal

-- the number by which the program knows a gate is one less
number_as : (kind : Kind) → tag_of the_type kind + 1 ≡ kind_number kind
unfolding kind_number gates
number_as Th12 = refl
number_as _ = refl

pub returns-clause-number : goal.returns-clause-number
returns-clause-number c = number_as c.args.kind
