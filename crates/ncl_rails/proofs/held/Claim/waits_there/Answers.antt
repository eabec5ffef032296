use Rattle.ncl_rails.proofs.Terms.{Node, ap, arith, sym, ◌∙◌}
use Rattle.ncl_rails.proofs.Holding.{IsAwaited-by}
use Rattle.ncl_rails.proofs.held.Claim.waits_there.Goals as goal

pub returns : goal.returns
returns c = λ yes value has.
    IsAwaited-by c.args.self.now.network.now c.args.self.now.waits.now value c.args.self.now.source c.items-nodes.result.now c.args.by c.index-nodes-place.result c.waits_at-waits.result c.items.result.now c.items-nodes.ensures c.index-nodes-place.is (omega arith) c.waits_at-waits.ensures (c.items.ensures ∙ ap (λ (n : Node). n.ins) (sym c.index-nodes-place.is)) (c.waits_under.ensures yes value has)
