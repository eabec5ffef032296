use Rattle.ncl_reaching.proofs.Terms.{Base, List, Option, Shown, Some, StageData, Variant, ap, arith, diagram_space, first-none_at, first-some_at, first_at, get_or, inputs_of_chain, length, option_map, shown_of, sym, values-kept, ◌∙◌, ◌≡◌, ◌≤◌}
use Rattle.ncl_reaching.proofs.asking.first_found.Goals as goal

pub found_at-requires-clause-base : goal.found_at-requires-clause-base
found_at-requires-clause-base c = values-kept (diagram_space c.args.space.now) (diagram_space c.loop-variant.space) c.args.ending.now.chain.now Base c.args.ending.now.base.now c.loop-variant.invariant.back.keeps c.requires.base

pub returns-in-Some-clause-found : goal.returns-in-Some-clause-found
returns-in-Some-clause-found c =
    let s : StageData = c.args.ending.now.stage.now in
    let f : Variant → Option Shown = first_at (inputs_of_chain c.args.ending.now.base.now.wiring.order c.args.ending.now.chain.now s) s in
    let variants : List Variant = c.args.variants.now in
    let i = c.loop-variant.variant-index in
    let said : f (get_or variants i Base) ≡ Some (shown_of c.in-Some.found) = sym c.in_ok-found.ensures.found ∙ ap (option_map shown_of) c.in-Some.is in
    sym (first-some_at f variants i Base (shown_of c.in-Some.found) c.loop-variant-test.true (λ k d lt. c.loop-variant.invariant.none k lt d) said)

pub returns-clause-found : goal.returns-clause-found
returns-clause-found c =
    let s : StageData = c.args.ending.now.stage.now in
    let variants : List Variant = c.args.variants.now in
    let past : length variants ≤ c.loop-variant.variant-index = c.loop-variant-test.false in
    sym (first-none_at (first_at (inputs_of_chain c.args.ending.now.base.now.wiring.order c.args.ending.now.chain.now s) s) variants (λ k d lt. c.loop-variant.invariant.none k (omega (arith, past, lt)) d))
