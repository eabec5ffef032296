use Rattle.ncl_hazard.proofs.Terms.{IsStage, List, PipelineData, Rails, Some, StageData, ap, arith, get_or, length, map, name_in, names_after, outputs_after, rail_nets, rails_as, slice_get, slice_get-get_or, subst, sym, ℕ, ◌+◌, ◌<◌, ◌∙◌, ◌≡◌, ◌≤◌}
use Rattle.std.proofs.Common.{All}
use Rattle.ncl_hazard.proofs.JoiningLaws.{names-next, cells-next, outputs-next, rails-within, as-many, is_stage-of, parts-are}
use Rattle.ncl_hazard.proofs.joining.joined_stage.Goals as goal

-- the stage at a place that is within those that are joined
stage_in : (p : PipelineData) (stages : List StageData) (k many : ℕ) (s : StageData) → stages ≡ p.stages → s ≡ get_or stages k s → many ≤ length p.stages → k < many → (k < length p.stages) × (slice_get p.stages k ≡ Some s)
stage_in p stages k many s same is most test =
    let lt : k < length p.stages = omega (arith, test, most) in
    (lt, slice_get-get_or p.stages k s lt ∙ ap (λ xs. Some (get_or xs k s)) (sym same) ∙ ap Some (sym is))

pub rename-requires : goal.rename-requires
rename-requires c =
    let p = c.args.pipeline.now in
    let k = c.loop-k.k in
    let s : StageData = c.index-stages-k.result in
    let (lt, at) = stage_in p c.stages.result.now k c.args.stages s c.stages.ensures.stages c.index-stages-k.is c.requires.within c.loop-k-test.true in
    record {
      many = ap length (c.deref-in-loop-k.ensures.value ∙ c.in_ok-taken.ensures ∙ ap (map (rails_as (name_in c.deref.result.now))) c.loop-k.invariant.3)
          ∙ as-many p c.facts.ensures k s (name_in c.deref.result.now) lt at
          ∙ sym (ap length (c.items.ensures ∙ ap (λ (t : StageData). t.inputs) c.stage.view_is));
      within = subst (λ (bits : List Rails). All (λ net. net < length c.loop-k.names.items) (rail_nets bits)) (sym (c.items.ensures ∙ ap (λ (t : StageData). t.inputs) c.stage.view_is))
          (subst (λ n. All (λ net. net < n) (rail_nets s.inputs)) (sym c.loop-k.invariant.0) (rails-within p c.facts.ensures k s lt at));
    }

pub loop-k-preserved : goal.loop-k-preserved
loop-k-preserved c =
    let p = c.args.pipeline.now in
    let k = c.loop-k.k in
    let s : StageData = c.index-stages-k.result in
    let (lt, at) = stage_in p c.stages.result.now k c.args.stages s c.stages.ensures.stages c.index-stages-k.is c.requires.within c.loop-k-test.true in
    let old = c.loop-k.names.items in
    let new = c.rename.new.names.items in
    let taken : c.deref-in-loop-k.result.now ≡ map (rails_as (name_in old)) (outputs_after p k) =
    c.deref-in-loop-k.ensures.value ∙ c.in_ok-taken.ensures ∙ ap (map (rails_as (name_in c.deref.result.now))) c.loop-k.invariant.3
    ∙ ap (λ xs. map (rails_as (name_in xs)) (outputs_after p k)) c.deref.ensures.value in
    let names : (x : ℕ) → name_in new x ≡ names_after p (k + 1) x =
    names-next p k s old new c.items.result.now c.deref-in-loop-k.result.now at (c.items.ensures ∙ ap (λ (t : StageData). t.inputs) c.stage.view_is) c.loop-k.invariant.1 taken c.rename.ensures.names in
    let again : c.deref-in-loop-k-2.result.now ≡ new = c.deref-in-loop-k-2.ensures.value in (
      c.rename.ensures.many ∙ c.loop-k.invariant.0,
      names,
      cells-next p k s c.deref-in-loop-k-2.result.now c.loop-k.cells.items c.push_gates.new.cells.items c.items-in-loop-k.result.now at (c.items-in-loop-k.ensures ∙ ap (λ (t : StageData). t.cells) c.stage.view_is)
          (λ x. ap (λ xs. name_in xs x) again ∙ names x) c.loop-k.invariant.2 c.in_ok-push_gates.ensures,
      c.items-outputs.ensures ∙ ap (λ (t : StageData). t.outputs) c.stage.view_is ∙ outputs-next p k s at,
    )

pub new-requires : goal.new-requires
new-requires c =
    let p = c.args.pipeline.now in
    let k = c.loop-k.k in
    let past = c.loop-k-test.false in
    let end = c.loop-k.auto.k-end in
    let last : k ≡ c.args.stages = omega (arith, past, end) in
    let again = c.deref-2.ensures.value in
    subst IsStage (sym (parts-are p k c.args.stages c.deref-2.result.now c.from_vec.result c.from_vec-3.result c.from_vec-2.result last
    (c.from_vec.ensures ∙ c.in_ok-inputs.ensures.items ∙ c.inputs.ensures.inputs) (c.from_vec-2.ensures ∙ c.loop-k.invariant.2)
    (λ x. ap (λ xs. name_in xs x) again ∙ c.loop-k.invariant.1 x)
    (c.from_vec-3.ensures ∙ c.in_ok-outputs.ensures ∙ ap (map (rails_as (name_in c.deref-2.result.now))) c.loop-k.invariant.3)))
    (is_stage-of p c.facts.ensures c.args.stages c.requires.some c.requires.within)
