use Rattle.ncl_rails.proofs.Terms.{All, CanBeNamed, IsNamed, ap, length, map, name_of_pair, pair_names, part_of_gate, rail_nets, subst, sym, ◌∙◌}
use Rattle.ncl_rails.proofs.Whole.{gates_named, outs_named, AreStageParts-made}
use Rattle.ncl_rails.proofs.parts.stage_parts.Goals as goal

pub parts_of_gates-requires : goal.parts_of_gates-requires
parts_of_gates-requires c =
    let are = c.in_ok-layout.ensures in
    subst (All (CanBeNamed (length c.args.ins.now))) (sym c.cells.ensures.cells)
    (gates_named c.args.network.now c.args.ins.now c.args.prefix.now c.requires are.complete are.is are.alike c.in_ok-layout.layout.gates are.few c.cells.ensures.numbered c.in_ok-layout.layout.outputs.items are.waits are.covered are.laid)

pub names_of_pairs-requires : goal.names_of_pairs-requires
names_of_pairs-requires c =
    let are = c.in_ok-layout.ensures in
    subst (λ rs. All (IsNamed (length c.args.ins.now)) (rail_nets rs)) (sym c.deref.ensures.value)
    (outs_named c.args.network.now c.args.ins.now c.args.prefix.now c.requires are.complete are.is are.alike c.in_ok-layout.layout.gates are.few c.cells.ensures.numbered c.in_ok-layout.layout.outputs.items are.waits are.covered are.laid)

pub returns : goal.returns
returns c =
    let are = c.in_ok-layout.ensures in
    AreStageParts-made c.args.network.now c.args.ins.now c.args.prefix.now c.requires are.complete are.is are.alike c.in_ok-layout.layout.gates are.few c.cells.ensures.numbered c.in_ok-layout.layout.outputs.items are.waits are.covered are.laid
    (record { cells = c.from_vec.result; outputs = c.from_vec-2.result })
    (c.from_vec.ensures ∙ c.in_ok-cells.ensures ∙ ap (map (part_of_gate (pair_names c.args.ins.now) c.args.prefix.now)) c.cells.ensures.cells)
    (c.from_vec-2.ensures ∙ c.in_ok-outputs.ensures ∙ ap (map (name_of_pair (pair_names c.args.ins.now) c.args.prefix.now)) c.deref.ensures.value)
