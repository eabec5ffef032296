use Rattle.ncl_diagram.proofs.Terms.{DiagramData, IsCanonical, IsNew, IsSpace, List, Node, [], arith, diagram_space, subst, sym, ℕ, ◌<◌, ◌^◌}
use Rattle.ncl_diagram.proofs.DiagramLaws.{IsDiagram-none, IsNew-diagram, IsSpace-diagram}
use Rattle.ncl_diagram.proofs.diagram.Diagram.new.Goals as goal

at : (n limit : ℕ) → List Node → DiagramData
at n limit nodes = record { width = n; limit = limit; nodes = nodes }

pub returns-clause-new : goal.returns-clause-new
unfolding at
returns-clause-new c = subst (λ (nodes : List Node). IsNew (diagram_space (at c.args.width c.args.limit nodes))) (sym c.new.ensures.none) (IsNew-diagram c.args.width c.args.limit)

pub returns-clause-space : goal.returns-clause-space
unfolding at
returns-clause-space c =
    let can : IsCanonical c.args.width [] = subst (λ (nodes : List Node). IsCanonical c.args.width nodes) c.new.ensures.none (c.new.ensures.canonical c.args.width) in
    let small : c.args.limit < 2 ^ 32 = omega arith in
    subst (λ (nodes : List Node). IsSpace (diagram_space (at c.args.width c.args.limit nodes))) (sym c.new.ensures.none)
    (IsSpace-diagram (at c.args.width c.args.limit []) (IsDiagram-none c.args.width c.args.limit c.requires.some c.requires.few small can))
