use Rattle.ncl_cells.proofs.Terms.{Adds, All, AreImagesOf, AreRemade, Computes, IfOk-weaker, IsPool, IsSource, Signal, bit_at, leaf_signals, length, map, plan_value, signal_value, subst, ℕ, ◌∙◌}
use Rattle.ncl_cells.proofs.Remade.{Adds-node}
use Rattle.ncl_cells.proofs.remaking.remake_node.Goals as goal

pub returns : goal.returns
returns c =
    let network = c.args.network.now in
    let smalls = c.args.pool.now.smalls.items in
    let images = c.args.images.now in
    let choice = c.in_ok-choice.choice in
    let found = c.in_ok-leaves.leaves.items in
    let next = c.apply.new.pool.smalls.items in
    let computes : Computes network.nodes c.args.place choice.leaves choice.plan = subst (λ nodes. Computes nodes c.args.place choice.leaves choice.plan) c.items.ensures c.in_ok-test.ensures in
    let are : AreImagesOf network.inputs images (leaf_signals choice.leaves) found = subst (λ signals. AreImagesOf network.inputs images signals found) (c.deref.ensures.value ∙ c.in_ok-signals.ensures) c.in_ok-leaves.ensures in
    IfOk-weaker c.apply.result
    (λ signal. (inputs : ℕ) → IsPool inputs smalls → All (λ (leaf : Signal). IsSource inputs (length smalls) leaf.from) found → Adds inputs smalls next (λ word nodes. plan_value choice.plan (map (signal_value word nodes) found)) signal)
    (λ signal. AreRemade network smalls images → Adds network.inputs smalls next (λ word _. bit_at network word c.args.place) signal)
    (λ signal applied. λ remade. Adds-node network c.requires.network smalls images remade c.args.place choice.leaves choice.plan found next signal computes are applied)
    c.apply.ensures
