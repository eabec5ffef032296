use Rattle.ncl_reaching.proofs.Terms.{Err, IfOk, IsPast, List, SpaceData, StageData, ap, ascending, diagram_space, first_shown, handed_on, inputs_of_chain, length, option_map, range_with_len, shown_of, subst, ℕ, ◌∙◌, ◌≡◌}
use Rattle.ncl_reaching.proofs.QuestionLaws.{nets-past, question-past}
use Rattle.ncl_reaching.proofs.asking.ask.Goals as goal

pub returns-in_err-base-clause-full : goal.returns-in_err-base-clause-full
returns-in_err-base-clause-full c = λ e.
    let chain : StageData = c.args.chain.now in
    let long : length c.items-bits.result.now ≡ length chain.inputs = ap length (c.items-bits.ensures ∙ ap (λ (t : StageData). t.inputs) c.chain.view_is) in
    let ordered : c.in_ok-order.order ≡ ascending chain = c.in_ok-order.ensures.bits ∙ ap (range_with_len 0) long in
    nets-past (diagram_space c.new-space.result) chain c.args.limit (c.new-space.ensures.width ∙ long) c.new-space.ensures.limit c.new-space.ensures.new c.in_ok-order.order ordered
    (c.in_err-base.ensures.full (ap Err (handed_on c.from_residual-in_err-base.result c.in_err-base.field-0.0 c.from_residual-in_err-base.ensures.1 e)))

pub returns-clause-found : goal.returns-clause-found
returns-clause-found c =
    let chain : StageData = c.args.chain.now in
    let s : StageData = c.args.stage.now in
    let long : length c.items-bits.result.now ≡ length chain.inputs = ap length (c.items-bits.ensures ∙ ap (λ (t : StageData). t.inputs) c.chain.view_is) in
    let ordered : c.in_ok-base.base.wiring.order ≡ ascending chain = c.in_ok-base.ensures.order ∙ c.in_ok-order.ensures.bits ∙ ap (range_with_len 0) long in
    subst (λ (o : List ℕ). IfOk c.found_over.result (λ found. option_map shown_of found ≡ first_shown (inputs_of_chain o chain s) s)) ordered c.found_over.ensures.found

pub returns-clause-full : goal.returns-clause-full
returns-clause-full c = λ e.
    let chain : StageData = c.args.chain.now in
    let b : SpaceData = diagram_space c.values_in.new.space in
    let long : length c.items-bits.result.now ≡ length chain.inputs = ap length (c.items-bits.ensures ∙ ap (λ (t : StageData). t.inputs) c.chain.view_is) in
    let ordered : c.in_ok-order.order ≡ ascending chain = c.in_ok-order.ensures.bits ∙ ap (range_with_len 0) long in
    question-past (diagram_space c.new-space.result) chain c.args.limit (c.new-space.ensures.width ∙ long) c.new-space.ensures.limit c.new-space.ensures.new c.in_ok-order.order ordered
    b c.in_ok-base.ensures.kept c.in_ok-base.ensures.held
    (subst (λ (o : List ℕ). IsPast b o chain) c.in_ok-base.ensures.order (c.found_over.ensures.full e))
