use Rattle.ncl_bank.proofs.Terms.{All, All-same, IsNetOf, StageCell, ap, arith, length, map, named_from, names_of_nets, tree_cell_of, ◌*◌, ◌++◌, ◌+◌, ◌∙◌, ◌≡◌}
use Rattle.ncl_bank.proofs.BankLaws.{registers_added, length-registers_added, acks_added, length-acks_added, tree_added, inputs_within, outputs_within, AreBankParts-planned}
use Rattle.ncl_bank.proofs.parts.bank_parts.Goals as goal

pub add_acks-requires : goal.add_acks-requires
add_acks-requires c =
    let begun = registers_added c.args.ins.now c.args.outs.now c.args.request.now c.args.rst.now c.args.root.now c.args.prefix.now c.requires c.in_ok-tree.tree c.in_ok-tree.ensures c.new-cells.result.items c.add_registers.new.cells.items c.new-cells.ensures.items c.in_ok-add_registers.ensures in
    omega (arith, c.requires.as_many, c.requires.few, length-registers_added c.args.ins.now c.args.outs.now c.args.request.now c.args.rst.now c.args.root.now c.args.prefix.now c.requires c.in_ok-tree.tree c.in_ok-tree.ensures c.add_registers.new.cells.items begun)

pub add_tree_cells-requires-clause-room : goal.add_tree_cells-requires-clause-room
add_tree_cells-requires-clause-room c =
    let begun = registers_added c.args.ins.now c.args.outs.now c.args.request.now c.args.rst.now c.args.root.now c.args.prefix.now c.requires c.in_ok-tree.tree c.in_ok-tree.ensures c.new-cells.result.items c.add_registers.new.cells.items c.new-cells.ensures.items c.in_ok-add_registers.ensures in
    let found : c.deref.result.now ≡ names_of_nets c.args.prefix.now c.args.root.now (2 * length c.args.ins.now) (length c.args.ins.now + length c.in_ok-tree.tree.cells) =
    c.deref.ensures.value ∙ c.in_ok-nets.ensures
    ∙ ap (λ gates. names_of_nets c.args.prefix.now c.args.root.now (2 * length c.args.ins.now) (length c.args.ins.now + length gates)) c.cells.ensures.cells in
    let acks = acks_added c.args.ins.now c.args.outs.now c.args.request.now c.args.rst.now c.args.root.now c.args.prefix.now c.requires c.in_ok-tree.tree c.in_ok-tree.ensures c.deref.result.now c.add_registers.new.cells.items c.add_acks.new.cells.items found begun c.in_ok-add_acks.ensures in
    omega (arith, c.requires.few, c.in_ok-tree.ensures.few, ap length c.cells-2.ensures.cells, length-acks_added c.args.ins.now c.args.outs.now c.args.request.now c.args.rst.now c.args.root.now c.args.prefix.now c.requires c.in_ok-tree.tree c.in_ok-tree.ensures c.add_acks.new.cells.items acks)

pub add_tree_cells-requires-clause-ins : goal.add_tree_cells-requires-clause-ins
add_tree_cells-requires-clause-ins c =
    let found : c.deref-2.result.now ≡ names_of_nets c.args.prefix.now c.args.root.now (2 * length c.args.ins.now) (length c.args.ins.now + length c.in_ok-tree.tree.cells) =
    c.deref-2.ensures.value ∙ c.in_ok-nets.ensures
    ∙ ap (λ gates. names_of_nets c.args.prefix.now c.args.root.now (2 * length c.args.ins.now) (length c.args.ins.now + length gates)) c.cells.ensures.cells in
    All-same (λ (gate : StageCell). All (IsNetOf c.deref-2.result.now) gate.ins.items) c.cells-2.result.now c.in_ok-tree.tree.cells c.cells-2.ensures.cells
    (inputs_within c.args.ins.now c.args.outs.now c.args.request.now c.args.rst.now c.args.root.now c.args.prefix.now c.requires c.in_ok-tree.tree c.in_ok-tree.ensures c.deref-2.result.now found)

pub add_tree_cells-requires-clause-outs : goal.add_tree_cells-requires-clause-outs
add_tree_cells-requires-clause-outs c =
    let found : c.deref-2.result.now ≡ names_of_nets c.args.prefix.now c.args.root.now (2 * length c.args.ins.now) (length c.args.ins.now + length c.in_ok-tree.tree.cells) =
    c.deref-2.ensures.value ∙ c.in_ok-nets.ensures
    ∙ ap (λ gates. names_of_nets c.args.prefix.now c.args.root.now (2 * length c.args.ins.now) (length c.args.ins.now + length gates)) c.cells.ensures.cells in
    All-same (λ (gate : StageCell). IsNetOf c.deref-2.result.now gate.out) c.cells-2.result.now c.in_ok-tree.tree.cells c.cells-2.ensures.cells
    (outputs_within c.args.ins.now c.args.outs.now c.args.request.now c.args.rst.now c.args.root.now c.args.prefix.now c.requires c.in_ok-tree.tree c.in_ok-tree.ensures c.deref-2.result.now found)

pub returns : goal.returns
returns c =
    let begun = registers_added c.args.ins.now c.args.outs.now c.args.request.now c.args.rst.now c.args.root.now c.args.prefix.now c.requires c.in_ok-tree.tree c.in_ok-tree.ensures c.new-cells.result.items c.add_registers.new.cells.items c.new-cells.ensures.items c.in_ok-add_registers.ensures in
    let found : c.deref.result.now ≡ names_of_nets c.args.prefix.now c.args.root.now (2 * length c.args.ins.now) (length c.args.ins.now + length c.in_ok-tree.tree.cells) =
    c.deref.ensures.value ∙ c.in_ok-nets.ensures
    ∙ ap (λ gates. names_of_nets c.args.prefix.now c.args.root.now (2 * length c.args.ins.now) (length c.args.ins.now + length gates)) c.cells.ensures.cells in
    let acks = acks_added c.args.ins.now c.args.outs.now c.args.request.now c.args.rst.now c.args.root.now c.args.prefix.now c.requires c.in_ok-tree.tree c.in_ok-tree.ensures c.deref.result.now c.add_registers.new.cells.items c.add_acks.new.cells.items found begun c.in_ok-add_acks.ensures in
    let found_again : c.deref-2.result.now ≡ names_of_nets c.args.prefix.now c.args.root.now (2 * length c.args.ins.now) (length c.args.ins.now + length c.in_ok-tree.tree.cells) =
    c.deref-2.ensures.value ∙ c.in_ok-nets.ensures
    ∙ ap (λ gates. names_of_nets c.args.prefix.now c.args.root.now (2 * length c.args.ins.now) (length c.args.ins.now + length gates)) c.cells.ensures.cells in
    let tree = tree_added c.args.ins.now c.args.outs.now c.args.request.now c.args.rst.now c.args.root.now c.args.prefix.now c.requires c.in_ok-tree.tree c.in_ok-tree.ensures c.deref-2.result.now c.add_acks.new.cells.items c.add_tree_cells.new.cells.items found_again acks
    (c.in_ok-add_tree_cells.ensures ∙ ap (λ gates. c.add_acks.new.cells.items ++ named_from c.args.prefix.now (length c.add_acks.new.cells.items) (map (tree_cell_of c.deref-2.result.now) gates)) c.cells-2.ensures.cells) in
    AreBankParts-planned c.args.ins.now c.args.outs.now c.args.request.now c.args.rst.now c.args.root.now c.args.prefix.now c.requires c.in_ok-tree.tree c.in_ok-tree.ensures (record { cells = c.from_vec.result }) (c.from_vec.ensures ∙ tree)
