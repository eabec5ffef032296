use Rattle.ncl_diagram.proofs.Terms.{AreKept, DiagramData, IsDiagram, List, Node, Releases, diagram_space, from_nat_le, length, subst, sym, ◌≤◌}
use Rattle.ncl_diagram.proofs.DiagramLaws.{IsDiagram-take, Releases-diagram, with_nodes}
use Rattle.ncl_diagram.proofs.KeptLaws.{kept_taken}
use Rattle.ncl_diagram.proofs.diagram.DiagramSpace.release.Goals as goal

pub returns : goal.returns
returns c =
    let old : DiagramData = record { width = c.self.inside.width; limit = c.self.inside.limit; nodes = c.self.inside.engine.nodes } in
    let stands : c.args.mark.count ≤ length old.nodes = subst (λ (d : DiagramData). c.args.mark.count ≤ length d.nodes) (sym c.self.view_is) (from_nat_le c.args.mark.count (length c.args.self.now.nodes) c.requires) in
    subst (λ (d : DiagramData). Releases (diagram_space d) (diagram_space (with_nodes old c.truncate.new.self)) c.args.mark) c.self.view_is
    (subst (λ (nodes : List Node). Releases (diagram_space old) (diagram_space (with_nodes old nodes)) c.args.mark) (sym c.truncate.ensures) (Releases-diagram old c.args.mark c.self.invariant.0 stands))

pub invariant_of-self : goal.invariant_of-self
invariant_of-self c =
    let old : DiagramData = record { width = c.self.inside.width; limit = c.self.inside.limit; nodes = c.self.inside.engine.nodes } in
    let stands : c.args.mark.count ≤ length old.nodes = subst (λ (d : DiagramData). c.args.mark.count ≤ length d.nodes) (sym c.self.view_is) (from_nat_le c.args.mark.count (length c.args.self.now.nodes) c.requires) in (
      subst (λ (nodes : List Node). IsDiagram old.width old.limit nodes) (sym c.truncate.ensures) (IsDiagram-take old.width old.limit old.nodes c.args.mark.count c.self.invariant.0 stands),
      subst (λ (nodes : List Node). AreKept old.width nodes c.release.new.self) (sym c.truncate.ensures)
          (kept_taken old.width old.nodes c.args.mark.count c.self.inside.engine.answers c.release.new.self c.self.invariant.0.canonical stands c.release.ensures c.self.invariant.1),
    )
