use Rattle.ncl_stage.proofs.Terms.{Rails, StageData, ap, get_or, insert_key, insert_rails, length, nat_eq, rail_nets, subst, take, ◌<◌, ◌∙◌, ◌≡◌}
use Rattle.ncl_stage.proofs.wiring.number_rails.Goals as goal

pub loop-pair-preserved : goal.loop-pair-preserved
loop-pair-preserved c =
    let d : Rails = record { zero = record { 0 = 0 }; one = record { 0 = 0 } } in
    let s : StageData = c.args.stage.now in
    let i = c.loop-pair.pair-index in
    let items = c.items-pair-items.result.now in
    let inputs : items ≡ s.inputs = c.items-pair-items.ensures ∙ ap (λ (t : StageData). t.inputs) c.stage.view_is in
    let within : i < length s.inputs = subst (λ xs. i < length xs) inputs c.loop-pair-test.true in
    c.in_ok-insert-2.ensures.keys
    ∙ ap (λ ks. insert_key nat_eq ks (get_or items i d).one.0) (c.in_ok-insert.ensures.keys ∙ ap (λ ks. insert_key nat_eq ks (get_or items i d).zero.0) c.loop-pair.invariant)
    ∙ ap (λ rs. insert_key nat_eq (insert_key nat_eq (rail_nets (take i s.inputs)) (get_or rs i d).zero.0) (get_or rs i d).one.0) inputs
    ∙ insert_rails s c.facts.ensures i d within
