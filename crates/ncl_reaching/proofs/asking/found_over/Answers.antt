use Rattle.ncl_reaching.proofs.Terms.{All, Base, Err, IfOk-weaker, IsAfterBase, List, StageData, Variant, after_base-within, ap, diagram_space, first_at, first_of, first_shown, handed_on, inputs_of_chain, map, option_map, shown_of, subst, sym, values-kept, ℕ, ◌∙◌, ◌≡◌}
use Rattle.ncl_reaching.proofs.QuestionLaws.{first-later, first-outputs, past-restored}
use Rattle.ncl_reaching.proofs.asking.found_over.Goals as goal

pub returns-in_err-found-clause-full : goal.returns-in_err-found-clause-full
returns-in_err-found-clause-full c = λ e.
    c.in_err-found.ensures.full (ap Err (handed_on c.from_residual.result c.in_err-found.field-0.0 c.from_residual.ensures.1 e))

pub returns-in-Some-clause-found : goal.returns-in-Some-clause-found
returns-in-Some-clause-found c =
    let chain : StageData = c.args.ending.now.chain.now in
    let order : List ℕ = c.args.ending.now.base.now.wiring.order in
    first-outputs order chain c.args.ending.now.stage.now c.requires.ends.outputs (option_map shown_of c.in_ok-found.field-0) c.in_ok-found.ensures.found (shown_of c.in-Some.found) (ap (option_map shown_of) c.in-Some.is)

pub first_found-requires-clause-base : goal.first_found-requires-clause-base
first_found-requires-clause-base c =
    values-kept (diagram_space c.args.space.now) (diagram_space c.found_in_outputs.new.space) c.args.ending.now.chain.now Base c.args.ending.now.base.now c.found_in_outputs.ensures.back.keeps c.requires.base

pub first_found-requires-clause-after : goal.first_found-requires-clause-after
first_found-requires-clause-after c =
    subst (All (IsAfterBase c.args.ending.now.stage.now)) (sym (c.as_slice.ensures.value ∙ c.in_ok-variants.ensures)) (after_base-within c.args.ending.now.stage.now)

pub returns-clause-found : goal.returns-clause-found
returns-clause-found c =
    let chain : StageData = c.args.ending.now.chain.now in
    let s : StageData = c.args.ending.now.stage.now in
    let order : List ℕ = c.args.ending.now.base.now.wiring.order in
    IfOk-weaker c.first_found.result _ (λ found. option_map shown_of found ≡ first_shown (inputs_of_chain order chain s) s)
    (λ found said.
    first-later order chain s c.requires.ends.outputs (option_map shown_of c.in_ok-found.field-0) c.in_ok-found.ensures.found (ap (option_map shown_of) c.in_default.is) (option_map shown_of found)
    (said ∙ ap (λ (variants : List Variant). first_of (map (first_at (inputs_of_chain order chain s) s) variants)) (c.as_slice.ensures.value ∙ c.in_ok-variants.ensures)))
    c.first_found.ensures.found

pub returns-clause-full : goal.returns-clause-full
returns-clause-full c = λ e.
    past-restored (diagram_space c.args.space.now) (diagram_space c.found_in_outputs.new.space) c.args.ending.now.base.now.wiring.order c.args.ending.now.chain.now c.found_in_outputs.ensures.back (c.first_found.ensures.full e)
