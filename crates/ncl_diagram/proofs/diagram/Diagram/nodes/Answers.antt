use Rattle.ncl_diagram.proofs.Terms.{DiagramData, IsDiagram, ap, arith, length, subst, sym, ◌∙◌}
use Rattle.ncl_diagram.proofs.DiagramLaws.{IsSpace-diagram, one_ref}
use Rattle.ncl_diagram.proofs.HeldSets.{len-held}
use Rattle.ncl_diagram.proofs.diagram.Diagram.nodes.Goals as goal

pub overflow_cast-result : goal.overflow_cast-result
overflow_cast-result c = omega (arith, c.self.invariant.0.few, c.self.invariant.0.small)

pub returns-clause-held : goal.returns-clause-held
returns-clause-held c =
    let is = subst (λ (d : DiagramData). IsDiagram d.width d.limit d.nodes) c.self.view_is c.self.invariant.0 in
    c.len.ensures ∙ ap (λ (d : DiagramData). length d.nodes) c.self.view_is ∙ sym (len-held c.args.self.now.width c.args.self.now.nodes is.canonical)

pub returns-clause-space : goal.returns-clause-space
returns-clause-space c = IsSpace-diagram c.args.self.now (subst (λ (d : DiagramData). IsDiagram d.width d.limit d.nodes) c.self.view_is c.self.invariant.0)

pub returns-clause-one : goal.returns-clause-one
returns-clause-one c =
    let is = subst (λ (d : DiagramData). IsDiagram d.width d.limit d.nodes) c.self.view_is c.self.invariant.0 in
    one_ref c.args.self.now is.canonical
