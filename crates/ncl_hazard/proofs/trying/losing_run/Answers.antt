use Rattle.ncl_hazard.proofs.Terms.{Fire, Item, Loses, ap, enabled, false, get_or, happened, meaning, subst, sym, take, turned, ◌++◌, ◌∙◌, ◌≡◌}
use Rattle.ncl_hazard.proofs.Tries.{has_tried-all, has_tried-next, loses-now}
use Rattle.ncl_hazard.proofs.trying.losing_run.Goals as goal

pub loop-next-init : goal.loop-next-init
loop-next-init c =
    let p = c.args.pipeline.now in
    let start = meaning c.args.state.now in (
      c.in_ok-try_items.ensures.made,
      has_tried-all p start (meaning c.try_items.new.state) c.args.coming.now c.try_items.new.run.items c.in_ok-try_items.ensures.tried
          (c.in_ok-try_items.ensures.run ∙ ap (λ xs. xs ++ happened p start c.args.coming.now) c.new-run.ensures.items),
      ap (λ t. enabled p t (Fire c.args.cell)) c.in_ok-try_items.ensures.tried ∙ c.requires.comes,
    )

pub returns-then-not-enabled : goal.returns-then-not-enabled
returns-then-not-enabled c =
    let p = c.args.pipeline.now in
    let item : Item = get_or c.args.going.now c.loop-next.next-index (Fire (record { 0 = 0 })) in
    let gone : enabled p (turned p (meaning c.loop-next.state) item) (Fire c.args.cell) ≡ false =
    ap (λ t. enabled p t (Fire c.args.cell)) (sym c.in_ok-attempt.ensures.turned) ∙ sym c.enabled.ensures ∙ c.if-not-enabled.true in
    subst (Loses p (meaning c.args.state.now) c.args.cell) (sym c.in_ok-attempt.ensures.run)
    (loses-now p (meaning c.args.state.now) (meaning c.loop-next.state) c.args.cell (c.args.coming.now ++ take c.loop-next.next-index c.args.going.now) c.loop-next.run.items item c.loop-next.invariant.1
    (c.requires.others c.loop-next.next-index (Fire (record { 0 = 0 })) c.loop-next-test.true) c.loop-next.invariant.2 gone)

pub loop-next-preserved : goal.loop-next-preserved
loop-next-preserved c =
    let p = c.args.pipeline.now in (
      c.in_ok-attempt.ensures.made,
      has_tried-next p (meaning c.args.state.now) (meaning c.loop-next.state) (meaning c.attempt.new.state) c.args.coming.now c.args.going.now c.loop-next.run.items c.attempt.new.run.items c.loop-next.next-index _
          c.loop-next-test.true c.loop-next.invariant.1 c.in_ok-attempt.ensures.turned c.in_ok-attempt.ensures.run,
      sym c.enabled.ensures ∙ c.if-not-enabled.false,
    )
