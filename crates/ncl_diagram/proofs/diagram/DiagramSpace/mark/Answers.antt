use Rattle.ncl_diagram.proofs.Terms.{DiagramData, IsDiagram, arith, subst}
use Rattle.ncl_diagram.proofs.DiagramLaws.{IsSpace-diagram}
use Rattle.ncl_diagram.proofs.diagram.DiagramSpace.mark.Goals as goal

pub overflow_cast-result : goal.overflow_cast-result
overflow_cast-result c = omega (arith, c.self.invariant.0.few, c.self.invariant.0.small)

pub returns-clause-space : goal.returns-clause-space
returns-clause-space c = IsSpace-diagram c.args.self.now (subst (λ (d : DiagramData). IsDiagram d.width d.limit d.nodes) c.self.view_is c.self.invariant.0)
