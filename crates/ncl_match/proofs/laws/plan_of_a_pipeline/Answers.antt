use Rattle.ncl_match.proofs.PlanLaws.{plan-evaluated, plan-fits, plan-ordered, plan-reach}
use Rattle.ncl_match.proofs.laws.plan_of_a_pipeline.Goals as goal

pub returns-clause-ordered : goal.returns-clause-ordered
returns-clause-ordered c = λ p l is. plan-ordered is

pub returns-clause-pins : goal.returns-clause-pins
returns-clause-pins c = λ p l is. plan-fits is

pub returns-clause-evaluated : goal.returns-clause-evaluated
returns-clause-evaluated c = λ p l is. plan-evaluated is

pub returns-clause-counts : goal.returns-clause-counts
returns-clause-counts c = λ p l is output rails at net. plan-reach is output rails at net
