use Rattle.ncl_blif.proofs.Terms.{filter_map, get, map, nat_cmp, take, ◌≡◌}
use Rattle.ncl_blif.proofs.dependence.dependencies.Given as goal

-- the covers so far have the successors that the map of drivers gives them
abbrev pub invariant-loop-cover : goal.invariant-loop-cover
invariant-loop-cover l =
    l.successors.items ≡ map (λ cover. filter_map (get nat_cmp l.places) cover.ins) (take l.cover-index l.covers)
