use Rattle.ncl_reaching.proofs.Terms.{All, BothRails, InRange, arith, meaning, subst, sym, ◌∙◌}
use Rattle.ncl_reaching.proofs.BreakingLaws.{before-within, happened-so, illegal-breaks, way-tried}
use Rattle.ncl_reaching.proofs.breaking.illegal_run.Goals as goal

pub start-requires : goal.start-requires
start-requires c = c.requires.1.wide

pub reaching_items-requires : goal.reaching_items-requires
reaching_items-requires c =
    let (output, b) = c.requires in
    let within = before-within c.args.way.now.pipeline.now c.facts.ensures c.args.way.now.before c.args.way.now.input.now (BothRails output) b in
    omega (arith, within)

pub try_items-requires-clause-made : goal.try_items-requires-clause-made
try_items-requires-clause-made c = c.in_ok-state.ensures.made

pub try_items-requires-clause-items : goal.try_items-requires-clause-items
try_items-requires-clause-items c =
    let p = c.args.way.now.pipeline.now in
    let (output, b) = c.requires in
    subst (All (InRange p)) (sym (c.deref.ensures.value ∙ c.in_ok-coming.ensures)) (way-tried p c.facts.ensures c.args.way.now.before c.args.way.now.input.now (BothRails output) b)

pub returns : goal.returns
returns c = λ output b.
    let p = c.args.way.now.pipeline.now in
    illegal-breaks p c.facts.ensures c.args.way.now.before c.args.way.now.input.now output b c.from_vec.result
    (c.from_vec.ensures
    ∙ happened-so p c.facts.ensures c.args.way.now.before c.args.way.now.input.now c.try_items.new.run.items c.new-run.result.items c.deref.result.now (meaning c.in_ok-state.state)
    c.in_ok-try_items.ensures.run c.new-run.ensures.items c.in_ok-state.ensures.reset (c.deref.ensures.value ∙ c.in_ok-coming.ensures))

pub overflow_add-way : goal.overflow_add-way
overflow_add-way c =
    let (output, b) = c.requires in
    let within = before-within c.args.way.now.pipeline.now c.facts.ensures c.args.way.now.before c.args.way.now.input.now (BothRails output) b in
    omega (arith, within, c.facts.ensures.few_banks)
