use Rattle.ncl_stage.proofs.OrderLaws.{numbers_by, words_by-ascending}
use Rattle.ncl_stage.proofs.laws.words_are_in_order.Goals as goal

pub returns-clause-numbers : goal.returns-clause-numbers
returns-clause-numbers c = numbers_by

pub returns-clause-ascending : goal.returns-clause-ascending
returns-clause-ascending c = words_by-ascending
