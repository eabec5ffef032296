use Rattle.ncl_reaching.proofs.Terms.{IsStage, List, Rails, StageCell, StageData, ap, append_assoc, by_net, followed, followers, map, subst, sym, ℕ, ◌++◌, ◌∙◌, ◌≡◌}
use Rattle.ncl_reaching.proofs.Following.{followed-is_stage}
use Rattle.ncl_reaching.proofs.chain.follow.Goals as goal

-- the parts that are put together are those of the stage behind the chain
parts-are : (front back : StageData) (number : ℕ) (inputs taken bits outputs : List Rails) (own more all gates : List StageCell) → number ≡ back.number → inputs ≡ front.inputs → own ≡ front.cells → taken ≡ front.outputs → bits ≡ back.inputs → gates ≡ back.cells → outputs ≡ back.outputs
    → more ≡ own ++ followers taken bits → all ≡ more ++ map by_net gates
    → record { number = number; inputs = inputs; cells = all; outputs = outputs } ≡ followed front back
parts-are front back number inputs taken bits outputs own more all gates numbers ins cells takes reads gs outs first second =
    let whole : all ≡ front.cells ++ (followers front.outputs back.inputs ++ map by_net back.cells) =
    second ∙ (λ i. first i ++ map by_net (gs i)) ∙ (λ i. (cells i ++ followers (takes i) (reads i)) ++ map by_net back.cells) ∙ append_assoc front.cells (followers front.outputs back.inputs) (map by_net back.cells) in
    (λ i. record { number = numbers i; inputs = ins i; cells = whole i; outputs = outs i })

pub new-requires : goal.new-requires
new-requires c =
    subst IsStage (sym (parts-are c.args.front c.args.back.now c.back.inside.number c.front.inside.inputs c.items.result.now c.items-2.result.now c.from_vec-2.result c.into_vec-cells.result.items c.push_followers.new.cells.items c.from_vec.result c.items-3.result.now
    (ap (λ (t : StageData). t.number) c.back.view_is) (ap (λ (t : StageData). t.inputs) c.front.view_is)
    (c.into_vec-cells.ensures ∙ ap (λ (t : StageData). t.cells) c.front.view_is) (c.items.ensures ∙ ap (λ (t : StageData). t.outputs) c.front.view_is)
    (c.items-2.ensures ∙ ap (λ (t : StageData). t.inputs) c.back.view_is) (c.items-3.ensures ∙ ap (λ (t : StageData). t.cells) c.back.view_is)
    (c.from_vec-2.ensures ∙ c.in_ok-outputs.ensures.items ∙ c.items-4.ensures ∙ ap (λ (t : StageData). t.outputs) c.back.view_is)
    c.in_ok-push_followers.ensures (c.from_vec.ensures ∙ c.in_ok-push_gates.ensures)))
    (followed-is_stage c.args.front c.args.back.now c.requires)
