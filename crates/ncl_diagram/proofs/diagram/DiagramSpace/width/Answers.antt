use Rattle.ncl_diagram.proofs.Terms.{DiagramData, IsDiagram, subst}
use Rattle.ncl_diagram.proofs.DiagramLaws.{IsSpace-diagram}
use Rattle.ncl_diagram.proofs.diagram.DiagramSpace.width.Goals as goal

pub returns-clause-space : goal.returns-clause-space
returns-clause-space c = IsSpace-diagram c.args.self.now (subst (λ (d : DiagramData). IsDiagram d.width d.limit d.nodes) c.self.view_is c.self.invariant.0)
