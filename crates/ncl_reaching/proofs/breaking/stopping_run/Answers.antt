use Rattle.ncl_reaching.proofs.Terms.{All, GoesToStop, InRange, NoRail, State, [], arith, meaning, order-of, reset, subst, sym, tried, ◌∙◌, ◌∷◌, ◌≡◌}
use Rattle.ncl_reaching.proofs.BreakingLaws.{before-within, happened-so, stop-breaks, way-tried}
use Rattle.ncl_reaching.proofs.breaking.stopping_run.Goals as goal

pub start-requires : goal.start-requires
start-requires c = c.requires.1.wide

pub reaching_items-requires : goal.reaching_items-requires
reaching_items-requires c =
    let (output, b) = c.requires in
    let within = before-within c.args.way.now.pipeline.now c.facts.ensures c.args.way.now.before c.args.way.now.input.now (NoRail output) b in
    omega (arith, within)

pub try_items-requires-clause-made : goal.try_items-requires-clause-made
try_items-requires-clause-made c = c.in_ok-state.ensures.made

pub push_stop-requires-clause-made : goal.push_stop-requires-clause-made
push_stop-requires-clause-made c = c.in_ok-try_items.ensures.made

pub try_items-requires-clause-items : goal.try_items-requires-clause-items
try_items-requires-clause-items c =
    let p = c.args.way.now.pipeline.now in
    let (output, b) = c.requires in
    subst (All (InRange p)) (sym (c.deref.ensures.value ∙ c.in_ok-coming.ensures)) (way-tried p c.facts.ensures c.args.way.now.before c.args.way.now.input.now (NoRail output) b)

pub push_stop-requires-clause-order : goal.push_stop-requires-clause-order
push_stop-requires-clause-order c = order-of c.args.way.now.pipeline.now.netlist c.origins.result.now c.order-order.result.now c.origins.ensures.origins c.order-order.ensures.order

pub returns : goal.returns
returns c = λ output b.
    let p = c.args.way.now.pipeline.now in
    let first = c.try_items.new.run.items in
    let now : State = meaning c.try_items.new.state in
    let are = c.deref.ensures.value ∙ c.in_ok-coming.ensures in
    let started : meaning c.in_ok-state.state ≡ reset p (c.args.way.now.input.now ∷ []) = c.in_ok-state.ensures.reset in
    stop-breaks p c.facts.ensures c.args.way.now.before c.args.way.now.input.now output b c.from_vec.result first now
    (happened-so p c.facts.ensures c.args.way.now.before c.args.way.now.input.now first c.new-run.result.items c.deref.result.now (meaning c.in_ok-state.state)
    c.in_ok-try_items.ensures.run c.new-run.ensures.items started are)
    (c.in_ok-try_items.ensures.tried ∙ (λ i. tried p (started i) (are i)))
    (subst (GoesToStop p now first) (sym c.from_vec.ensures) c.in_ok-push_stop.ensures)

pub overflow_add-way : goal.overflow_add-way
overflow_add-way c =
    let (output, b) = c.requires in
    let within = before-within c.args.way.now.pipeline.now c.facts.ensures c.args.way.now.before c.args.way.now.input.now (NoRail output) b in
    omega (arith, within, c.facts.ensures.few_banks)
