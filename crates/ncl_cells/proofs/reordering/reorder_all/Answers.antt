use Rattle.ncl_cells.proofs.Terms.{AllZip, AreMoved, IsMoved, IsRebuiltOf, List, Node, Option, Signal, ap, arith, length, subst, sym, take_at, ℕ, ◌∙◌, ◌≡◌}
use Rattle.ncl_cells.proofs.Orders.{IsRebuilt-moved}
use Rattle.ncl_cells.proofs.reordering.reorder_all.Goals as goal

pub returns : goal.returns
returns c =
    let network = c.args.network.now in
    let nodes : List Node = c.in_ok-nodes.nodes.items in
    let outputs : List Signal = c.in_ok-outputs.outputs.items in
    let places : List (Option ℕ) = c.move_nodes.new.places in
    let moved : AreMoved network nodes places = c.in_ok-nodes.ensures in
    let long : length places ≡ c.in_ok-places.places.len = omega (arith, moved.as_many, c.in_ok-places.ensures.len, ap length c.items.ensures) in
    let here : c.deref.result.now ≡ places = c.deref.ensures.value ∙ take_at places _ c.in_ok-places.places.len long in
    let are : AllZip (IsMoved places) network.outputs outputs =
    subst (λ signals. AllZip (IsMoved places) signals outputs) c.items-2.ensures
    (subst (λ found. AllZip (IsMoved found) c.items-2.result.now outputs) here c.in_ok-outputs.ensures) in
    subst (IsRebuiltOf network) (λ i. record { inputs = network.inputs; nodes = sym c.from_vec.ensures i; outputs = sym c.from_vec-2.ensures i })
    (IsRebuilt-moved network nodes places moved outputs c.requires are)
