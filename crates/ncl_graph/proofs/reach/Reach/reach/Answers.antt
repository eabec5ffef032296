use Rattle.ncl_graph.proofs.Terms.{false, get_or_read, sym, ◌∙◌}
use Rattle.ncl_graph.proofs.Reaching.{reaches_one}
use Rattle.ncl_graph.proofs.reach.Reach.reach.Goals as goal

pub returns-in_ok-push : goal.returns-in_ok-push
returns-in_ok-push c =
    let s = c.args.self.now in
    let read = get_or_read s.reached.items c.args.place c.index.result.now c.requires c.index.ensures false in
    rw c.in_ok-push.ensures.items (reaches_one s.reached.items s.waiting.items c.args.place c.requires (sym read ∙ c.if-not-index.true))
