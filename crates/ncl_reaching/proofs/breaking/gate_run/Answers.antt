use Rattle.ncl_reaching.proofs.Terms.{Base, Bool, BringsFault, List, Loses, Orphan, PipelineData, Some, StageCell, StageData, Without, [], all_data, ap, arith, brings, get_or, length, meaning, order-of, place_read, slice_get, slice_get_within, standing, subst, sym, val, ℕ, ◌&&◌, ◌<◌, ◌∙◌, ◌∷◌, ◌≡◌}
use Rattle.ncl_reaching.proofs.BreakingLaws.{Takes, before-within, place-takes, takes-there}
use Rattle.ncl_reaching.proofs.breaking.gate_run.Goals as goal
use Rattle.ncl_reaching.proofs.breaking.gate_run.Goals.{After-deref-2}

-- what is asked of the run, and what it breaks
takes : (c : After-deref-2) → Takes c.args.way.now.pipeline.now c.facts.ensures c.args.way.now.before c.args.way.now.input.now (Orphan c.args.place) (get_or c.items.result.now c.args.place c.index-items-place.result).cell (meaning c.in_ok-state.state) c.deref.result.now c.deref-2.result.now
takes c =
    let p = c.args.way.now.pipeline.now in
    let order = c.order-order.result.now in
    let ord = order-of p.netlist c.origins.result.now order c.origins.ensures.origins c.order-order.ensures.order in
    let within = before-within p c.facts.ensures c.args.way.now.before c.args.way.now.input.now (Orphan c.args.place) c.requires in
    let at = place_read p.stages c.stages.result.now c.args.way.now.before c.index-stages-way.result c.stages.ensures.stages c.index-stages-way.is within in
    takes-there p c.facts.ensures c.args.way.now.before c.args.way.now.input.now
    (place-takes p c.facts.ensures c.args.way.now.before c.args.way.now.input.now order ord c.args.place c.requires c.index-stages-way.result at c.items.result.now
    (c.items.ensures ∙ ap (λ (s : StageData). s.cells) c.own.view_is) c.index-items-place.result)
    c.in_ok-state.ensures.reset (c.deref.ensures.value ∙ c.in_ok-coming.ensures) (c.deref-2.ensures.value ∙ c.in_ok-going.ensures)

-- the place is that of a cell of the stage
place-within : (p : PipelineData) (before : ℕ) (input : List Bool) (place : ℕ) → BringsFault p before input (Orphan place) → (own : StageData) → slice_get p.stages before ≡ Some own → (cells : List StageCell) → cells ≡ own.cells → place < length cells
place-within p before input place b own at cells same =
    let w = brings p.stages before input in
    let (g, at_g, shown) = standing (λ (c : StageCell). val b.stage w Base c.out.0 && all_data b.stage (val b.stage w (Without place))) (slice_get b.stage.cells place) b.shown in
    let at_b = b.at in
    let one : own ≡ b.stage = cc in
    slice_get_within cells place g (ap (λ xs. slice_get xs place) (same ∙ ap (λ (s : StageData). s.cells) one) ∙ at_g)

pub start-requires : goal.start-requires
start-requires c = c.requires.wide

pub bounds-stages-way : goal.bounds-stages-way
bounds-stages-way c =
    subst (λ (stages : List StageData). c.args.way.now.before < length stages) (sym c.stages.ensures.stages)
    (before-within c.args.way.now.pipeline.now c.facts.ensures c.args.way.now.before c.args.way.now.input.now (Orphan c.args.place) c.requires)

pub bounds-items-place : goal.bounds-items-place
bounds-items-place c =
    let p = c.args.way.now.pipeline.now in
    let within = before-within p c.facts.ensures c.args.way.now.before c.args.way.now.input.now (Orphan c.args.place) c.requires in
    let at = place_read p.stages c.stages.result.now c.args.way.now.before c.index-stages-way.result c.stages.ensures.stages c.index-stages-way.is within in
    place-within p c.args.way.now.before c.args.way.now.input.now c.args.place c.requires c.index-stages-way.result at c.items.result.now
    (c.items.ensures ∙ ap (λ (s : StageData). s.cells) c.own.view_is)

pub coming_items-requires : goal.coming_items-requires
coming_items-requires c =
    let within = before-within c.args.way.now.pipeline.now c.facts.ensures c.args.way.now.before c.args.way.now.input.now (Orphan c.args.place) c.requires in
    omega (arith, within)

pub going_items-requires-clause-stages : goal.going_items-requires-clause-stages
going_items-requires-clause-stages c =
    let within = before-within c.args.way.now.pipeline.now c.facts.ensures c.args.way.now.before c.args.way.now.input.now (Orphan c.args.place) c.requires in
    omega (arith, within)

pub going_items-requires-clause-made : goal.going_items-requires-clause-made
going_items-requires-clause-made c = c.in_ok-state.ensures.made

pub going_items-requires-clause-reset : goal.going_items-requires-clause-reset
going_items-requires-clause-reset c = (c.args.way.now.input.now ∷ [], c.in_ok-state.ensures.reset)

pub going_items-requires-clause-within : goal.going_items-requires-clause-within
going_items-requires-clause-within c =
    (order-of c.args.way.now.pipeline.now.netlist c.origins.result.now c.order-order.result.now c.origins.ensures.origins c.order-order.ensures.order).inside

pub losing_run-requires : goal.losing_run-requires
losing_run-requires c =
    let taken = takes (goal.at.losing_run-requires c).After-deref-2 in
    record { made = c.in_ok-state.ensures.made; cell = taken.within; coming = taken.coming; going = taken.going; others = taken.others; comes = taken.comes; goes = taken.goes }

pub returns : goal.returns
returns c =
    (takes (goal.at.returns c).After-deref-2).breaks c.from_vec.result
    (subst (Loses c.args.way.now.pipeline.now (meaning c.in_ok-state.state) (get_or c.items.result.now c.args.place c.index-items-place.result).cell) (sym c.from_vec.ensures) c.in_ok-run.ensures)

pub bounds-items-place-in_ok-state : goal.bounds-items-place-in_ok-state
bounds-items-place-in_ok-state c =
    let p = c.args.way.now.pipeline.now in
    let within = before-within p c.facts.ensures c.args.way.now.before c.args.way.now.input.now (Orphan c.args.place) c.requires in
    let at = place_read p.stages c.stages.result.now c.args.way.now.before c.index-stages-way.result c.stages.ensures.stages c.index-stages-way.is within in
    place-within p c.args.way.now.before c.args.way.now.input.now c.args.place c.requires c.index-stages-way.result at c.items.result.now
    (c.items.ensures ∙ ap (λ (s : StageData). s.cells) c.own.view_is)

pub offset_bounds-items-place : goal.offset_bounds-items-place
offset_bounds-items-place c =
    let p = c.args.way.now.pipeline.now in
    let within = before-within p c.facts.ensures c.args.way.now.before c.args.way.now.input.now (Orphan c.args.place) c.requires in
    let at = place_read p.stages c.stages.result.now c.args.way.now.before c.index-stages-way.result c.stages.ensures.stages c.index-stages-way.is within in
    let lt = place-within p c.args.way.now.before c.args.way.now.input.now c.args.place c.requires c.index-stages-way.result at c.items.result.now (c.items.ensures ∙ ap (λ (s : StageData). s.cells) c.own.view_is) in
    omega (arith, lt, c.items.type_inv.1)

pub offset_bounds-stages-way : goal.offset_bounds-stages-way
offset_bounds-stages-way c =
    let within = before-within c.args.way.now.pipeline.now c.facts.ensures c.args.way.now.before c.args.way.now.input.now (Orphan c.args.place) c.requires in
    omega (arith, within, ap length c.stages.ensures.stages, c.stages.type_inv.1)

pub overflow_add-way : goal.overflow_add-way
overflow_add-way c =
    let within = before-within c.args.way.now.pipeline.now c.facts.ensures c.args.way.now.before c.args.way.now.input.now (Orphan c.args.place) c.requires in
    omega (arith, within, c.facts.ensures.few_banks)

pub overflow_add-way-2 : goal.overflow_add-way-2
overflow_add-way-2 c =
    let within = before-within c.args.way.now.pipeline.now c.facts.ensures c.args.way.now.before c.args.way.now.input.now (Orphan c.args.place) c.requires in
    omega (arith, within, c.facts.ensures.few_banks)
