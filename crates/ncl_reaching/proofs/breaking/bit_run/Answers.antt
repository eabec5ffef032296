use Rattle.ncl_reaching.proofs.Terms.{Incomplete, Loses, [], ap, bit_at, length, meaning, order-of, register_cell, subst, sym, ◌<◌, ◌∙◌, ◌∷◌}
use Rattle.ncl_reaching.proofs.BreakingLaws.{Takes, bank-there, before-within, bit-of_word, bit-there, cell-takes, takes-there}
use Rattle.ncl_reaching.proofs.breaking.bit_run.Goals as goal
use Rattle.ncl_reaching.proofs.breaking.bit_run.Goals.{After-deref-2}

pub start-requires : goal.start-requires
start-requires c = c.requires.brought.wide

pub lacking_items-requires-clause-before : goal.lacking_items-requires-clause-before
lacking_items-requires-clause-before c = before-within c.args.way.now.pipeline.now c.facts.ensures c.args.way.now.before c.args.way.now.input.now (Incomplete c.args.bit) c.requires.brought

pub acknowledging_items-requires-clause-made : goal.acknowledging_items-requires-clause-made
acknowledging_items-requires-clause-made c = c.in_ok-state.ensures.made

pub acknowledging_items-requires-clause-reset : goal.acknowledging_items-requires-clause-reset
acknowledging_items-requires-clause-reset c = (c.args.way.now.input.now ∷ [], c.in_ok-state.ensures.reset)

pub acknowledging_items-requires-clause-within : goal.acknowledging_items-requires-clause-within
acknowledging_items-requires-clause-within c =
    (order-of c.args.way.now.pipeline.now.netlist c.origins.result.now c.order-order.result.now c.origins.ensures.origins c.order-order.ensures.order).inside

pub lacking_items-requires-clause-bit : goal.lacking_items-requires-clause-bit
lacking_items-requires-clause-bit c = λ bank at. bit-there c.args.way.now.pipeline.now c.facts.ensures c.args.way.now.before c.args.way.now.input.now c.args.bit c.requires.brought bank at

pub bounds-bits-bit : goal.bounds-bits-bit
bounds-bits-bit c =
    subst (λ bits. c.args.bit < length bits) (sym c.bits.ensures.bits)
    (bit-of_word c.args.way.now.pipeline.now c.facts.ensures c.args.way.now.before c.args.way.now.input.now c.args.bit c.requires.brought c.args.word.now c.requires.word)

pub register_of-cell-requires : goal.register_of-cell-requires
register_of-cell-requires c =
    let p = c.args.way.now.pipeline.now in
    let (bank, at) = bank-there p c.facts.ensures c.args.way.now.before c.args.way.now.input.now (Incomplete c.args.bit) c.requires.brought in
    (bank, at, bit-there p c.facts.ensures c.args.way.now.before c.args.way.now.input.now c.args.bit c.requires.brought bank at)

-- what is asked of the run, and what it breaks
takes : (c : After-deref-2) → Takes c.args.way.now.pipeline.now c.facts.ensures c.args.way.now.before c.args.way.now.input.now (Incomplete c.args.bit) c.register_of-cell.result (meaning c.in_ok-state.state) c.deref.result.now c.deref-2.result.now
takes c =
    let p = c.args.way.now.pipeline.now in
    let order = c.order-order.result.now in
    let ord = order-of p.netlist c.origins.result.now order c.origins.ensures.origins c.order-order.ensures.order in
    takes-there p c.facts.ensures c.args.way.now.before c.args.way.now.input.now
    (cell-takes p c.facts.ensures c.args.way.now.before c.args.way.now.input.now order ord c.args.bit c.requires.brought c.args.word.now c.requires.word c.register_of-cell.result
    (λ bank x at at_x. c.register_of-cell.ensures bank x at at_x ∙ ap (λ w. register_cell x (bit_at w c.args.bit)) c.bits.ensures.bits))
    c.in_ok-state.ensures.reset (c.deref.ensures.value ∙ c.in_ok-coming.ensures) (c.deref-2.ensures.value ∙ c.in_ok-going.ensures)

pub losing_run-requires : goal.losing_run-requires
losing_run-requires c =
    let taken = takes (goal.at.losing_run-requires c).After-deref-2 in
    record { made = c.in_ok-state.ensures.made; cell = taken.within; coming = taken.coming; going = taken.going; others = taken.others; comes = taken.comes; goes = taken.goes }

pub returns : goal.returns
returns c =
    (takes (goal.at.returns c).After-deref-2).breaks c.from_vec.result
    (subst (Loses c.args.way.now.pipeline.now (meaning c.in_ok-state.state) c.register_of-cell.result) (sym c.from_vec.ensures) c.in_ok-run.ensures)
