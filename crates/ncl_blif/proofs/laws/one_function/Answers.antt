use Rattle.ncl_blif.proofs.Terms.{IsModel, recursion_from_All}
use Rattle.ncl_blif.proofs.Composing.{computes_some, computes_one}
use Rattle.ncl_blif.proofs.laws.one_function.Goals as goal

pub returns-clause-some : goal.returns-clause-some
returns-clause-some c = λ models word are long. computes_some models (recursion_from_All IsModel models are.each) are.joined word long

pub returns-clause-same : goal.returns-clause-same
returns-clause-same c = λ models word a b are p q. computes_one models (recursion_from_All IsModel models are.each) word a b p q
