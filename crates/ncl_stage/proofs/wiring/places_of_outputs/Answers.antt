use Rattle.ncl_stage.proofs.Terms.{Contains, IsStage, List, Rails, StageData, ap, at_rail, get_or, length, map_push, nets_of, rail_places, subst, sym, ℕ, ◌<◌, ◌∙◌, ◌≡◌}
use Rattle.ncl_stage.proofs.wiring.places_of_outputs.Goals as goal

-- the rails of an output that is read are nets that have numbers
rails-named : (s : StageData) → IsStage s → (keys : List ℕ) → keys ≡ nets_of s.inputs s.cells → (outputs : List Rails) → outputs ≡ s.outputs → (i : ℕ) (d : Rails) → i < length outputs → Contains keys (get_or outputs i d).zero.0 × Contains keys (get_or outputs i d).one.0
rails-named s is keys named outputs same i d lt =
    subst (λ nets. Contains nets (get_or outputs i d).zero.0 × Contains nets (get_or outputs i d).one.0) (sym named)
    (subst (λ xs. Contains (nets_of s.inputs s.cells) (get_or xs i d).zero.0 × Contains (nets_of s.inputs s.cells) (get_or xs i d).one.0) (sym same)
    (at_rail (λ net. Contains (nets_of s.inputs s.cells) net) s.outputs is.outputs_known i d (subst (λ xs. i < length xs) same lt)))

pub place_of-requires : goal.place_of-requires
place_of-requires c = (rails-named c.args.stage.now c.facts.ensures c.args.nets.now.keys c.requires c.items-pair-items.result.now (c.items-pair-items.ensures ∙ ap (λ (t : StageData). t.outputs) c.stage.view_is) c.loop-pair.pair-index _ c.loop-pair-test.true).0

pub place_of-requires-in-loop-pair : goal.place_of-requires-in-loop-pair
place_of-requires-in-loop-pair c = (rails-named c.args.stage.now c.facts.ensures c.args.nets.now.keys c.requires c.items-pair-items.result.now (c.items-pair-items.ensures ∙ ap (λ (t : StageData). t.outputs) c.stage.view_is) c.loop-pair.pair-index _ c.loop-pair-test.true).1

pub loop-pair-preserved : goal.loop-pair-preserved
loop-pair-preserved c =
    let d : Rails = record { zero = record { 0 = 0 }; one = record { 0 = 0 } } in
    let s : StageData = c.args.stage.now in
    let i = c.loop-pair.pair-index in
    let nets = c.args.nets.now.keys in
    let outputs : c.items-pair-items.result.now ≡ s.outputs = c.items-pair-items.ensures ∙ ap (λ (t : StageData). t.outputs) c.stage.view_is in
    let within : i < length s.outputs = subst (λ xs. i < length xs) outputs c.loop-pair-test.true in
    map_push (rail_places nets) s.outputs i d c.loop-pair.places.items c.push.new.self.items (c.place_of.result, c.place_of-in-loop-pair.result) within c.loop-pair.invariant
    ((λ k. (c.place_of.ensures k, c.place_of-in-loop-pair.ensures k)) ∙ ap (λ xs. rail_places nets (get_or xs i d)) outputs)
    c.in_ok-push.ensures.items
