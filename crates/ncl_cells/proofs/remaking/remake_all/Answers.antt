use Rattle.ncl_cells.proofs.Terms.{AreImagesOf, List, Signal, Small, ap, arith, length, map, small_node, subst, sym, ◌<◌, ◌^◌, ◌∙◌, ◌≡◌}
use Rattle.ncl_cells.proofs.Remade.{rebuilt}
use Rattle.ncl_cells.proofs.remaking.remake_all.Goals as goal

pub returns : goal.returns
returns c =
    let network = c.args.network.now in
    let smalls : List Small = c.remake_nodes.new.pool.smalls.items in
    let images : List Signal = c.in_ok-images.images.items in
    let few : length smalls < 2 ^ 32 = omega arith in
    let nodes : c.from_vec.result ≡ map small_node smalls = c.from_vec.ensures ∙ c.in_ok-nodes.ensures ∙ ap (map small_node) c.deref-2.ensures.value in
    let are : AreImagesOf network.inputs images network.outputs c.from_vec-2.result =
    subst (AreImagesOf network.inputs images network.outputs) (sym c.from_vec-2.ensures)
    (subst (λ signals. AreImagesOf network.inputs images signals c.in_ok-outputs.outputs.items) c.items.ensures
    (subst (λ found. AreImagesOf network.inputs found c.items.result.now c.in_ok-outputs.outputs.items) c.deref.ensures.value c.in_ok-outputs.ensures)) in
    rebuilt network c.requires smalls images c.in_ok-images.ensures c.from_vec.result c.from_vec-2.result few nodes are
