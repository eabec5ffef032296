use Rattle.ncl_cells.proofs.Terms.{AllZip, IsMoved, List, Node, Option, Some, [], ap, arith, length, refl, slice_get, slice_get_read, slice_set, subst, ℕ, ◌++◌, ◌+◌, ◌<◌, ◌^◌, ◌∙◌, ◌∷◌, ◌≡◌}
use Rattle.ncl_cells.proofs.Orders.{AreMoved-push}
use Rattle.ncl_cells.proofs.reordering.move_node.Goals as goal

pub returns : goal.returns
returns c =
    let network = c.args.network.now in
    let nodes : List Node = c.args.nodes.now.items in
    let places : List (Option ℕ) = c.args.places.now in
    let listed : List Node = c.items.result.now in
    let node : Node = c.in-Some.node.now in
    let look = c.in-Some.ensures.lookup in
    let at : slice_get network.nodes c.args.place ≡ Some node = subst (λ all. slice_get all c.args.place ≡ Some node) c.items.ensures (slice_get_read listed (length listed) c.args.place node refl look.3.0 look.1) in
    let are : AllZip (IsMoved places) node.ins c.in_ok-ins.ins.items = subst (λ signals. AllZip (IsMoved places) signals c.in_ok-ins.ins.items) c.items-2.ensures c.in_ok-ins.ensures in
    let rows : c.in_ok-rows.rows ≡ node.rows = c.in_ok-rows.ensures ∙ c.items-3.ensures in
    let count : c.len-2.result ≡ length nodes = omega arith in
    let room : length nodes + 1 < 2 ^ 32 = omega arith in
    AreMoved-push network nodes places c.requires.moved c.requires.network c.args.place node at c.in_ok-ins.ins.items are c.push.new.self.items (slice_set places c.args.place (Some c.len-2.result)) room
    (c.in_ok-push.ensures.items ∙ (λ i. nodes ++ record { ins = c.from_vec.ensures i; on = node.on; rows = rows i } ∷ []))
    (ap (λ n. slice_set places c.args.place (Some n)) count)
