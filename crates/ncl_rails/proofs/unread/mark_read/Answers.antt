use Rattle.ncl_rails.proofs.Terms.{All, IsInputBelow, Node, Signal, ap, false, is_among, length, length-replicate, list_any, slice_index_or, subst, sym, ◌||◌, ◌∙◌, ◌≡◌}
use Rattle.ncl_rails.proofs.Inputs.{outputs_below, nodes_below, marked}
use Rattle.ncl_rails.proofs.unread.mark_read.Goals as goal

pub mark-requires : goal.mark-requires
mark-requires c =
    let count : length c.args.read.now ≡ c.args.network.now.inputs = ap length c.requires.fresh ∙ length-replicate c.args.network.now.inputs false in
    subst (λ n. All (λ (s : Signal). IsInputBelow n s.from) c.items.result.now) (sym count)
    (subst (All (λ (s : Signal). IsInputBelow c.args.network.now.inputs s.from)) (sym c.items.ensures) (outputs_below c.args.network.now c.requires.varying))

pub mark_all-requires : goal.mark_all-requires
mark_all-requires c =
    let count : length c.mark.new.read ≡ c.args.network.now.inputs = c.mark.auto.read ∙ ap length c.requires.fresh ∙ length-replicate c.args.network.now.inputs false in
    subst (λ n. All (λ (node : Node). All (λ (s : Signal). IsInputBelow n s.from) node.ins) c.items-2.result.now) (sym count)
    (subst (All (λ (node : Node). All (λ (s : Signal). IsInputBelow c.args.network.now.inputs s.from) node.ins)) (sym c.items-2.ensures) (nodes_below c.args.network.now c.requires.varying))

pub returns : goal.returns
returns c i =
    let first : slice_index_or c.mark.new.read i false ≡ is_among c.args.network.now.outputs i =
    c.mark.ensures i ∙ marked c.args.network.now.inputs i (is_among c.items.result.now i) c.args.read.now c.requires.fresh ∙ ap (λ signals. is_among signals i) c.items.ensures in
    c.mark_all.ensures i ∙ (λ j. first j || list_any (λ (node : Node). is_among node.ins i) (c.items-2.ensures j))
