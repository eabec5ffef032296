use Rattle.ncl_reaching.proofs.Terms.{All, InRange, all-tried, ap, arith, happened, meaning, subst, sym, vec_len, ◌++◌, ◌∙◌, ◌≡◌}
use Rattle.ncl_reaching.proofs.ToStop.{goes-more, goes-to_stop}
use Rattle.ncl_reaching.proofs.stopping.push_stop.Goals as goal

pub try_items-requires-clause-items : goal.try_items-requires-clause-items
try_items-requires-clause-items c =
    let p = c.args.pipeline.now in
    subst (All (InRange p)) (sym (c.deref.ensures.value ∙ c.in_ok-items.ensures)) (all-tried p c.facts.ensures c.args.order.now c.requires.order)

pub returns-then-len-before : goal.returns-then-len-before
returns-then-len-before c =
    let p = c.args.pipeline.now in
    let now = meaning c.loop-items.state in
    goes-to_stop p (meaning c.args.state.now) now c.args.run.now.items c.loop-items.run.items c.try_items.new.run.items c.loop-items.invariant.1 c.facts.ensures c.args.order.now c.requires.order
    (c.in_ok-try_items.ensures.run ∙ ap (λ xs. c.loop-items.run.items ++ happened p now xs) (c.deref.ensures.value ∙ c.in_ok-items.ensures))
    (let long = c.try_items.new.run.ok.0 in let was = c.loop-items.run.ok.0 in let counts : vec_len c.try_items.new.run ≡ vec_len c.loop-items.run = sym c.len.ensures ∙ c.if-len-before.true ∙ c.len-before.ensures in omega (arith, long, was, counts))

pub loop-items-preserved : goal.loop-items-preserved
loop-items-preserved c =
    let p = c.args.pipeline.now in (
      c.in_ok-try_items.ensures.made,
      goes-more p (meaning c.args.state.now) (meaning c.loop-items.state) c.args.run.now.items c.loop-items.run.items c.try_items.new.run.items c.loop-items.invariant.1 (meaning c.try_items.new.state) c.deref.result.now
          c.in_ok-try_items.ensures.tried c.in_ok-try_items.ensures.run,
    )
