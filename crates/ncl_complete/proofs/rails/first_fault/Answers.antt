use Rattle.ncl_complete.proofs.Terms.{Base, Bool, BothRails, HaveTables, IsOrderOf, List, NoRail, None, Option, Rails, Ref, SpaceData, StageData, ap, arith, below_more, data_functions, false, function_tables_by, get_or, illegal_functions, least, least_word_by, length, option_map, placed, subst, sym, true, values_at, ℕ, ◌<◌, ◌∙◌, ◌≡◌, ◌≤◌}
use Rattle.ncl_complete.specs.declared.rail_fault.RailFault.TheVariants as rail
use Rattle.ncl_complete.proofs.OutputFaults.{output_fault, both-found, none-found, fault-both, fault-empty, fault-none, first-fault, no-fault}
use Rattle.ncl_complete.proofs.rails.first_fault.Goals as goal

-- the least words that are asked of the functions of an output, which is one of the stage
both-asked : (s : StageData) (order : List ℕ) → IsOrderOf (length s.inputs) order → (space : SpaceData) → space.width ≡ length s.inputs → (refs : List Ref) → HaveTables space refs (function_tables_by order (illegal_functions s (values_at s Base))) → (outputs : List Rails) → outputs ≡ s.outputs → (i : ℕ) → i < length outputs → (r : Ref) (word : Option (List Bool))
    → word ≡ option_map (placed order) (least true space.width (space.table r)) → r ≡ get_or refs i r → (i < length s.outputs) × (least_word_by order s (BothRails i) ≡ word)
both-asked s order ordered space width refs have outputs same i lt r word is at =
    let within = subst (λ xs. i < length xs) same lt in
    (within, sym (is ∙ ap (λ r. option_map (placed order) (least true space.width (space.table r))) at ∙ both-found s order ordered space width refs have i within r))

none-asked : (s : StageData) (order : List ℕ) → IsOrderOf (length s.inputs) order → (space : SpaceData) → space.width ≡ length s.inputs → (refs : List Ref) → HaveTables space refs (function_tables_by order (data_functions s (values_at s Base))) → (i : ℕ) → i < length s.outputs → (r : Ref) (word : Option (List Bool))
    → word ≡ option_map (placed order) (least false space.width (space.table r)) → r ≡ get_or refs i r → least_word_by order s (NoRail i) ≡ word
none-asked s order ordered space width refs have i lt r word is at =
    sym (is ∙ ap (λ r. option_map (placed order) (least false space.width (space.table r))) at ∙ none-found s order ordered space width refs have i lt r)

pub returns-in-Some : goal.returns-in-Some
returns-in-Some g c =
    let s : StageData = c.args.stage.now in
    let (within, both) = both-asked s c.args.order.now c.requires.order (g.P.Space.meaning c.args.space.now) c.requires.width c.args.refs.now.both.items c.requires.both c.items-output-end.result.now (c.items-output-end.ensures ∙ ap (λ (t : StageData). t.outputs) c.stage.view_is) c.loop-output.output c.loop-output-test.true c.index.result.now c.least_one.result c.least_one.ensures c.index.ensures in
    sym (first-fault s c.args.order.now c.loop-output.output (rail.BothRails c.loop-output.output c.in-Some.word) within c.loop-output.invariant (fault-both s c.args.order.now c.loop-output.output c.in-Some.word (both ∙ c.in-Some.is)))

pub returns-in-Some-least_zero : goal.returns-in-Some-least_zero
returns-in-Some-least_zero g c =
    let s : StageData = c.args.stage.now in
    let (within, both) = both-asked s c.args.order.now c.requires.order (g.P.Space.meaning c.args.space.now) c.requires.width c.args.refs.now.both.items c.requires.both c.items-output-end.result.now (c.items-output-end.ensures ∙ ap (λ (t : StageData). t.outputs) c.stage.view_is) c.loop-output.output c.loop-output-test.true c.index.result.now c.least_one.result c.least_one.ensures c.index.ensures in
    let neither = none-asked s c.args.order.now c.requires.order (g.P.Space.meaning c.args.space.now) c.requires.width c.args.refs.now.some.items c.requires.some c.loop-output.output within c.index-in-loop-output.result.now c.least_zero.result c.least_zero.ensures c.index-in-loop-output.ensures in
    sym (first-fault s c.args.order.now c.loop-output.output (rail.NoRail c.loop-output.output c.in-Some-least_zero.word) within c.loop-output.invariant (fault-empty s c.args.order.now c.loop-output.output c.in-Some-least_zero.word (both ∙ c.in_default.is) (neither ∙ c.in-Some-least_zero.is)))

pub loop-output-preserved : goal.loop-output-preserved
loop-output-preserved g c =
    let s : StageData = c.args.stage.now in
    let (within, both) = both-asked s c.args.order.now c.requires.order (g.P.Space.meaning c.args.space.now) c.requires.width c.args.refs.now.both.items c.requires.both c.items-output-end.result.now (c.items-output-end.ensures ∙ ap (λ (t : StageData). t.outputs) c.stage.view_is) c.loop-output.output c.loop-output-test.true c.index.result.now c.least_one.result c.least_one.ensures c.index.ensures in
    let neither = none-asked s c.args.order.now c.requires.order (g.P.Space.meaning c.args.space.now) c.requires.width c.args.refs.now.some.items c.requires.some c.loop-output.output within c.index-in-loop-output.result.now c.least_zero.result c.least_zero.ensures c.index-in-loop-output.ensures in
    below_more (λ k. output_fault c.args.order.now s k ≡ None) c.loop-output.output c.loop-output.invariant (fault-none s c.args.order.now c.loop-output.output (both ∙ c.in_default.is) (neither ∙ c.in_default-least_zero.is))

pub returns : goal.returns
returns g c =
    let s : StageData = c.args.stage.now in
    let outputs : c.items-output-end.result.now ≡ s.outputs = c.items-output-end.ensures ∙ ap (λ (t : StageData). t.outputs) c.stage.view_is in
    let past : length s.outputs ≤ c.loop-output.output = subst (λ xs. length xs ≤ c.loop-output.output) outputs c.loop-output-test.false in
    sym (no-fault s c.args.order.now (λ k lt. c.loop-output.invariant k (omega arith)))

pub least_one-requires-clause-width : goal.least_one-requires-clause-width
least_one-requires-clause-width g c = c.requires.width ∙ sym c.requires.order.many

pub least_zero-requires-clause-width : goal.least_zero-requires-clause-width
least_zero-requires-clause-width g c = c.requires.width ∙ sym c.requires.order.many
