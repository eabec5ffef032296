use Rattle.ncl_diagram.proofs.Terms.{Adds, DiagramData, Full, IfOk, IsErrOf, Keeps, Makes, OnOk, [], diagram_space, false, fits, rail_table, subst, true, ◌∷◌, ◌≡◌}
use Rattle.ncl_diagram.proofs.DiagramLaws.{Keeps-grown, adds_by, fits_by, full_by, made_by, with_nodes}
use Rattle.ncl_diagram.proofs.KeptLaws.{kept_grown}
use Rattle.ncl_diagram.proofs.diagram.DiagramSpace.rail.Goals as goal

pub returns-clause-made : goal.returns-clause-made
returns-clause-made c =
    let old : DiagramData = record { width = c.self.inside.width; limit = c.self.inside.limit; nodes = c.self.inside.engine.nodes } in
    subst (λ (d : DiagramData). IfOk c.rail_node.result (λ r. Makes (diagram_space d) (diagram_space (with_nodes old c.rail_node.new.nodes)) r (rail_table d.width c.args.bit c.args.value))) c.self.view_is
    (made_by old c.rail_node.new.nodes (rail_table old.width c.args.bit c.args.value) c.rail_node.result (c.rail_node.ensures))

pub returns-clause-kept : goal.returns-clause-kept
returns-clause-kept c =
    let old : DiagramData = record { width = c.self.inside.width; limit = c.self.inside.limit; nodes = c.self.inside.engine.nodes } in
    subst (λ (d : DiagramData). Keeps (diagram_space d) (diagram_space (with_nodes old c.rail_node.new.nodes))) c.self.view_is
    (Keeps-grown old c.rail_node.new.nodes c.self.invariant.0.canonical c.rail_node.ensures.grown (record { some_bit = c.self.invariant.0.some_bit; few_bits = c.self.invariant.0.few_bits; canonical = c.rail_node.ensures.canonical; few = c.rail_node.ensures.few; small = c.self.invariant.0.small }))

pub returns-clause-adds : goal.returns-clause-adds
returns-clause-adds c =
    let old : DiagramData = record { width = c.self.inside.width; limit = c.self.inside.limit; nodes = c.self.inside.engine.nodes } in
    subst (λ (d : DiagramData). Adds (diagram_space d) (diagram_space (with_nodes old c.rail_node.new.nodes)) ((rail_table d.width c.args.bit c.args.value) ∷ [])) c.self.view_is
    (adds_by old c.rail_node.new.nodes (rail_table old.width c.args.bit c.args.value) c.rail_node.result (c.rail_node.ensures))

pub returns-clause-full : goal.returns-clause-full
returns-clause-full c =
    let old : DiagramData = record { width = c.self.inside.width; limit = c.self.inside.limit; nodes = c.self.inside.engine.nodes } in
    subst (λ (d : DiagramData). IsErrOf c.rail_node.result Full → fits (diagram_space d) ((rail_table d.width c.args.bit c.args.value) ∷ []) ≡ false) c.self.view_is
    (full_by old c.rail_node.new.nodes (rail_table old.width c.args.bit c.args.value) c.rail_node.result (c.rail_node.ensures))

pub returns-clause-fits : goal.returns-clause-fits
returns-clause-fits c =
    let old : DiagramData = record { width = c.self.inside.width; limit = c.self.inside.limit; nodes = c.self.inside.engine.nodes } in
    subst (λ (d : DiagramData). OnOk c.rail_node.result (fits (diagram_space d) ((rail_table d.width c.args.bit c.args.value) ∷ []) ≡ true)) c.self.view_is
    (fits_by old c.rail_node.new.nodes (rail_table old.width c.args.bit c.args.value) c.rail_node.result (c.rail_node.ensures))

pub invariant_of-self : goal.invariant_of-self
invariant_of-self c = (
  record { some_bit = c.self.invariant.0.some_bit; few_bits = c.self.invariant.0.few_bits; canonical = c.rail_node.ensures.canonical; few = c.rail_node.ensures.few; small = c.self.invariant.0.small },
  kept_grown c.self.inside.width c.self.inside.engine.nodes c.rail_node.new.nodes c.self.inside.engine.answers c.self.invariant.0.canonical c.rail_node.ensures.grown c.self.invariant.1,
)
