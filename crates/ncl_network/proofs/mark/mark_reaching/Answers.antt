use Rattle.ncl_network.proofs.Terms.{IsMarked, List, Node, Some, ap, arith, get_or, is_kept, is_read, length, length-replicate, refl, slice_get, slice_get_read, subst, sym, ℕ, ◌+◌, ◌-◌, ◌<◌, ◌||◌, ◌∙◌, ◌≡◌, ◌≤◌}
use Rattle.ncl_network.proofs.Marking.{IsMarked-outputs, IsMarked-passed, IsMarked-more, turn_placed}
use Rattle.ncl_network.proofs.mark.mark_reaching.Goals as goal

pub loop-place-init : goal.loop-place-init
loop-place-init c =
    let count : ℕ = length c.args.network.now.nodes in
    subst (λ nodes. IsMarked c.args.network.now c.mark.new.kept (length nodes)) (sym c.items-nodes.ensures)
    (IsMarked-outputs c.args.network.now c.mark.new.kept (c.mark.auto.kept ∙ ap length c.requires.fresh ∙ length-replicate count _) (λ k.
    c.mark.ensures k ∙ (λ i. is_kept (c.requires.fresh i) k || is_read (c.items.ensures i) k)))

-- the node that is read of some nodes stands in these
read_at : (nodes read : List Node) (place : ℕ) (node : Node) → read ≡ nodes → place < length read → node ≡ get_or read place node → slice_get nodes place ≡ Some node
read_at nodes read place node same within is = ap (λ ns. slice_get ns place) (sym same) ∙ slice_get_read read (length read) place node refl within is

pub mark-requires-then-kept-place : goal.mark-requires-then-kept-place
mark-requires-then-kept-place c =
    let place : ℕ = c.loop-place.place - 1 in
    let node : Node = c.index-nodes-place.result in
    let at : slice_get c.args.network.now.nodes place ≡ Some node = read_at c.args.network.now.nodes c.items-nodes.result.now place node c.items-nodes.ensures (omega arith) c.index-nodes-place.is in
    let less : place ≤ length c.loop-place.kept = omega (arith, ap length c.items-nodes.ensures, c.loop-place.invariant.as_many) in
    turn_placed c.args.network.now place node c.items-then-kept-place.result.now (length c.loop-place.kept) c.requires.network at (c.items-then-kept-place.ensures ∙ ap (λ (n : Node). n.ins) (sym c.index-nodes-place.is)) less

pub loop-place-preserved-then-kept-place : goal.loop-place-preserved-then-kept-place
loop-place-preserved-then-kept-place c =
    let place : ℕ = c.loop-place.place - 1 in
    let node : Node = c.index-nodes-place.result in
    let at : slice_get c.args.network.now.nodes place ≡ Some node = read_at c.args.network.now.nodes c.items-nodes.result.now place node c.items-nodes.ensures (omega arith) c.index-nodes-place.is in
    let from : c.loop-place.place ≡ place + 1 = omega arith in
    let ins : c.items-then-kept-place.result.now ≡ node.ins =
    c.items-then-kept-place.ensures ∙ ap (λ (n : Node). n.ins) (sym c.index-nodes-place.is) in
    IsMarked-more c.args.network.now c.loop-place.kept c.mark-then-kept-place.new.kept place node c.requires.network at c.if-kept-place.true c.mark-then-kept-place.auto.kept
    (λ k. c.mark-then-kept-place.ensures k ∙ ap (λ signals. is_kept c.loop-place.kept k || is_read signals k) ins) (subst (IsMarked c.args.network.now c.loop-place.kept) from c.loop-place.invariant)

pub loop-place-preserved : goal.loop-place-preserved
loop-place-preserved c =
    let from : c.loop-place.place ≡ (c.loop-place.place - 1) + 1 = omega arith in
    IsMarked-passed c.args.network.now c.loop-place.kept (c.loop-place.place - 1) c.if-kept-place.false (subst (IsMarked c.args.network.now c.loop-place.kept) from c.loop-place.invariant)
