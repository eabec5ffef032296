use Rattle.ncl_rails.proofs.Terms.{Node, ap, arith, map, signal_in, sym, ◌∙◌}
use Rattle.ncl_rails.proofs.Holding.{IsAwaited-by}
use Rattle.ncl_rails.proofs.held.is_always_held.Goals as goal

pub returns : goal.returns
returns c = λ yes value.
    IsAwaited-by c.args.network.now c.args.waits.now value c.args.source c.items-nodes.result.now c.args.by c.index-nodes-by.result c.waits_at-waits.result c.items.result.now c.items-nodes.ensures c.index-nodes-by.is (omega arith) c.waits_at-waits.ensures (c.items.ensures ∙ ap (λ (n : Node). n.ins) (sym c.index-nodes-by.is)) (c.always_waits.ensures yes (map (signal_in value) c.items.result.now))
