use Rattle.ncl_blif.proofs.Terms.{Cover, IsGraph, List, Option, [], ap, dependency_graph, driver_place, filter_map, get, length, map, map_more, nat_cmp, subst, sym, take, take_all, ℕ, ◌++◌, ◌∙◌, ◌∷◌, ◌≡◌, ◌≤◌}
use Rattle.ncl_blif.proofs.DependenceLaws.{IsGraph-dependency_graph}
use Rattle.ncl_blif.proofs.dependence.dependencies.Goals as goal

-- the successors of all covers are the graph
made : (driver : ℕ → Option ℕ) (covers : List Cover) (k : ℕ) (found : List (List ℕ)) → ((signal : ℕ) → driver signal ≡ driver_place covers signal)
    → found ≡ map (λ cover. filter_map driver cover.ins) (take k covers) → length covers ≤ k → found ≡ dependency_graph covers
made driver covers k found same so_far all =
    so_far ∙ ap (map (λ cover. filter_map driver cover.ins)) (take_all k covers all) ∙ (λ i. map (λ cover. filter_map (λ signal. same signal i) cover.ins) covers)

pub loop-cover-preserved : goal.loop-cover-preserved
loop-cover-preserved c =
    let driver = get nat_cmp c.in_ok-places.places in
    let own : Cover → List ℕ = λ cover. filter_map driver cover.ins in
    let found = c.in_ok-places_of.ensures ∙ ap (filter_map driver) c.items.ensures ∙ ap own c.cover-item.is in
    c.in_ok-push.ensures.items ∙ ap (λ all. all ++ c.in_ok-places_of.field-0 ∷ []) c.loop-cover.invariant
    ∙ ap (λ one. map own (take c.loop-cover.cover-index c.args.covers.now) ++ one ∷ []) found ∙ sym (map_more own c.args.covers.now c.loop-cover.cover-index c.cover-item.result c.loop-cover-test.true)

pub new-requires : goal.new-requires
new-requires c =
    let all = made (get nat_cmp c.in_ok-places.places) c.args.covers.now c.loop-cover.cover-index c.loop-cover.successors.items c.in_ok-places.ensures c.loop-cover.invariant c.loop-cover-test.false in
    subst IsGraph (sym (c.from_vec.ensures ∙ all)) (IsGraph-dependency_graph c.args.covers.now c.requires)

pub returns : goal.returns
returns c =
    c.new.ensures ∙ c.from_vec.ensures
    ∙ made (get nat_cmp c.in_ok-places.places) c.args.covers.now c.loop-cover.cover-index c.loop-cover.successors.items c.in_ok-places.ensures c.loop-cover.invariant c.loop-cover-test.false
