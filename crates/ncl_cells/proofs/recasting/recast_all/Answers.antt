use Rattle.ncl_cells.proofs.Terms.{IsRebuiltOf, subst, sym, ◌∙◌, ◌≡◌}
use Rattle.ncl_cells.proofs.StandIns.{IsRebuilt-recast}
use Rattle.ncl_cells.proofs.recasting.recast_all.Goals as goal

pub returns : goal.returns
returns c =
    let network = c.args.network.now in
    let outputs : c.from_vec-2.result ≡ network.outputs = c.from_vec-2.ensures ∙ c.in_ok-outputs.ensures.items_if_clones_equal (λ x y is. is) ∙ c.items.ensures in
    subst (IsRebuiltOf network) (λ i. record { inputs = network.inputs; nodes = sym c.from_vec.ensures i; outputs = sym outputs i })
    (IsRebuilt-recast network c.requires c.in_ok-nodes.nodes.items c.in_ok-nodes.ensures.recast c.in_ok-nodes.ensures.as_many)
