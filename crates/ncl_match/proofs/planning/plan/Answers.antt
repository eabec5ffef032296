use Rattle.ncl_match.proofs.PlannedLaws.{DataCell, List, PipelineData, Rails, Some, StageCell, StageData, ap, append_assoc, arith, bank_cells, before-wide, before_at, gate_cell, gathered, get_or, laid_out_of, last-wide, length, map, plan_turn, refl, register_cells, slice_get, slice_get_read, subst, suc, sym, ℕ, ◌++◌, ◌+◌, ◌<◌, ◌∙◌, ◌≡◌}
use Rattle.ncl_match.proofs.planning.plan.Goals as goal

-- the stage at a place
at_place : (p : PipelineData) (stages : List StageData) (place : ℕ) (s : StageData) → stages ≡ p.stages → place < length stages → s ≡ get_or stages place s → slice_get p.stages place ≡ Some s
at_place p stages place s same lt is = subst (λ xs. slice_get xs place ≡ Some s) same (slice_get_read stages (length stages) place s refl lt is)

-- one bank more
bank-more : (p : PipelineData) (place : ℕ) (s : StageData) (made mid new : List DataCell) (before bits : List Rails) (cells : List StageCell) → slice_get p.stages place ≡ Some s → before ≡ before_at p place → bits ≡ s.inputs → cells ≡ s.cells
    → made ≡ gathered (plan_turn p) place → mid ≡ made ++ register_cells before bits → new ≡ mid ++ map gate_cell cells → new ≡ gathered (plan_turn p) (place + 1)
bank-more p place s made mid new before bits cells at before_is bits_are cells_are so_far registers gates =
    let front : List DataCell = gathered (plan_turn p) place in
    let more : suc place ≡ place + 1 = omega arith in
    gates ∙ ap (λ l. l ++ map gate_cell cells) (registers ∙ ap (λ l. l ++ register_cells before bits) so_far)
    ∙ append_assoc front (register_cells before bits) (map gate_cell cells)
    ∙ (λ i. front ++ (register_cells (before_is i) (bits_are i) ++ map gate_cell (cells_are i)))
    ∙ ap (λ found. front ++ bank_cells (before_at p place) found) (sym at)
    ∙ ap (gathered (plan_turn p)) more

pub add_registers-requires : goal.add_registers-requires
add_registers-requires c =
    let p : PipelineData = c.args.pipeline.now in
    let (l, is) = laid_out_of p.netlist p c.stages-stages.ensures.shape in
    let s : StageData = c.index-stages-place.result in
    let at = at_place p c.stages-stages.result.now c.loop-place.place s c.stages-stages.ensures.stages c.loop-place-test.true c.index-stages-place.is in
    let bits_are : c.items.result.now ≡ s.inputs = c.items.ensures ∙ ap (λ (x : StageData). x.inputs) c.stage.view_is in
    ap length c.rails_before.ensures ∙ before-wide is c.loop-place.place s at ∙ ap length (sym bits_are)

pub loop-place-preserved : goal.loop-place-preserved
loop-place-preserved c =
    let p : PipelineData = c.args.pipeline.now in
    let s : StageData = c.index-stages-place.result in
    let at = at_place p c.stages-stages.result.now c.loop-place.place s c.stages-stages.ensures.stages c.loop-place-test.true c.index-stages-place.is in
    let bits_are : c.items.result.now ≡ s.inputs = c.items.ensures ∙ ap (λ (x : StageData). x.inputs) c.stage.view_is in
    let cells_are : c.items-in-loop-place.result.now ≡ s.cells = c.items-in-loop-place.ensures ∙ ap (λ (x : StageData). x.cells) c.stage.view_is in
    bank-more p c.loop-place.place s c.loop-place.made.items c.add_registers.new.made.items c.add_gates.new.made.items c.rails_before.result.now c.items.result.now c.items-in-loop-place.result.now at c.rails_before.ensures bits_are cells_are
    c.loop-place.invariant c.in_ok-add_registers.ensures c.in_ok-add_gates.ensures

pub add_registers-requires-2 : goal.add_registers-requires-2
add_registers-requires-2 c =
    let p : PipelineData = c.args.pipeline.now in
    let (l, is) = laid_out_of p.netlist p c.stages-stages.ensures.shape in
    let before_is : c.rails_before-2.result.now ≡ before_at p (length c.stages-stages.result.now) = c.rails_before-2.ensures in
    ap length (before_is ∙ ap (λ (stages : List StageData). before_at p (length stages)) c.stages-stages.ensures.stages) ∙ last-wide is ∙ ap length (sym c.outputs.ensures.outputs)
