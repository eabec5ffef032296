use Rattle.ncl_match.proofs.MarkLaws.{reached-marked}
use Rattle.ncl_match.proofs.laws.marks_are_reached.Goals as goal

pub returns : goal.returns
returns c = λ plan nets root marks m net. (m.reach net, reached-marked plan nets root marks m net)
