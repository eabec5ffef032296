use Rattle.ncl_diagram.proofs.Terms.{Applies, Bool, DiagramData, Leaves, List, Node, Ref, There, [], ap, arith, bead_count, diagram_space, gate_table, held_of, map, operand_bound, places, product, subst, sym, table_from, ◌*◌, ◌+◌, ◌∙◌, ◌∷◌, ◌≡◌, ◌≤◌}
use Rattle.std.specs.FinSet as set
use Rattle.ncl_diagram.proofs.Counting.{product_filled}
use Rattle.ncl_diagram.proofs.HeldSets.{len-held}
use Rattle.ncl_diagram.proofs.DiagramLaws.{Keeps-grown, There-live, adds_by, bound_of-places, fits_by, full_by, made_by, tables_of-places, with_nodes}
use Rattle.ncl_diagram.proofs.Padding.{gate_filled, there_filled}
use Rattle.ncl_diagram.proofs.diagram.Diagram.apply_steps.Goals as goal

pub apply-requires-clause-there : goal.apply-requires-clause-there
apply-requires-clause-there g c =
    there_filled c.self.inside.engine.nodes (map (λ (r : Ref). r.place) c.args.ins.now) (places c.key_of.result) c.key_of.ensures
    (subst (λ (d : DiagramData). There d.nodes (map (λ (r : Ref). r.place) c.args.ins.now)) (sym c.self.view_is) (There-live c.args.self.now c.args.ins.now c.requires.live))

pub apply-requires-clause-sound : goal.apply-requires-clause-sound
apply-requires-clause-sound g c = record { canonical = c.self.invariant.0.canonical; few = c.self.invariant.0.few; kept = c.self.invariant.1 }

pub returns-clause-applies : goal.returns-clause-applies
returns-clause-applies g c =
    let old : DiagramData = record { width = c.self.inside.width; limit = c.self.inside.limit; nodes = c.self.inside.engine.nodes } in
    let new : List Node = c.apply.new.self.nodes in
    let made : List Bool = gate_table old.width c.args.kind (map (diagram_space old).table c.args.ins.now) in
    let leaves : Leaves old.width old.limit old.nodes new made c.apply.result =
    subst (λ (t : List Bool). Leaves old.width old.limit old.nodes new t c.apply.result)
    (gate_filled c.args.kind old.nodes old.width 0 (map (λ (r : Ref). r.place) c.args.ins.now) (places c.key_of.result) c.key_of.ensures ∙ ap (gate_table old.width c.args.kind) (tables_of-places old c.args.ins.now))
    c.apply.ensures.leaves in
    subst (λ (d : DiagramData). Applies (diagram_space d) (diagram_space (with_nodes old new)) (gate_table d.width c.args.kind (map (diagram_space d).table c.args.ins.now)) c.apply.result) c.self.view_is
    (record {
      answer = made_by old new made c.apply.result leaves;
      kept = Keeps-grown old new c.self.invariant.0.canonical leaves.grown (record { some_bit = c.self.invariant.0.some_bit; few_bits = c.self.invariant.0.few_bits; canonical = leaves.canonical; few = leaves.few; small = c.self.invariant.0.small });
      adds = adds_by old new made c.apply.result leaves;
      full = full_by old new made c.apply.result leaves;
      fit = fits_by old new made c.apply.result leaves;
    })

pub returns-clause-steps : goal.returns-clause-steps
returns-clause-steps g c =
    let old : DiagramData = record { width = c.self.inside.width; limit = c.self.inside.limit; nodes = c.self.inside.engine.nodes } in
    let cost = c.apply.ensures.steps in
    let few = product_filled old.width old.nodes (map (λ (r : Ref). r.place) c.args.ins.now) (places c.key_of.result) c.key_of.ensures in
    let bound : product (map (λ p. bead_count old.width (table_from old.nodes old.width 0 p ∷ []) + 2) (map (λ (r : Ref). r.place) c.args.ins.now)) ≡ operand_bound (diagram_space old) c.args.ins.now = bound_of-places old c.args.ins.now in
    subst (λ (d : DiagramData). c.apply.new.steps ≤ c.args.steps.now + 5 * operand_bound (diagram_space d) c.args.ins.now) c.self.view_is (omega arith)

pub returns-clause-came : goal.returns-clause-came
returns-clause-came g c =
    let old : DiagramData = record { width = c.self.inside.width; limit = c.self.inside.limit; nodes = c.self.inside.engine.nodes } in
    let came = c.apply.ensures.came in
    let more = len-held old.width c.apply.new.self.nodes c.apply.ensures.leaves.canonical in
    let less = len-held old.width old.nodes c.self.invariant.0.canonical in
    subst (λ (d : DiagramData). set.len (held_of old.width c.apply.new.self.nodes) + c.args.steps.now ≤ set.len (diagram_space d).held + c.apply.new.steps) c.self.view_is (omega arith)
