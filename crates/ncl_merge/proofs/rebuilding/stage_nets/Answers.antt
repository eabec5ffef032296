use Rattle.ncl_merge.proofs.Terms.{List, StageData, [], false, get_or, is_driven, is_stage_net, list_any, list_any-append, or-false, take, take-written, take_all, take_more, ℕ, ◌++◌, ◌+◌, ◌||◌, ◌∙◌, ◌∷◌, ◌≡◌}
use Rattle.ncl_merge.proofs.Choices.{AreStageNets}
use Rattle.ncl_merge.proofs.FoldingSteps.{All, StageCell, ap, arith, length, subst, sym, ◌<◌, item-at, stage-inside}
use Rattle.ncl_merge.proofs.rebuilding.stage_nets.Goals as goal

pub mark-requires : goal.mark-requires
mark-requires c = λ i d lt.
    let p = c.args.pipeline.now in
    let k = c.loop-stage.stage-index in
    let s = c.stage-item.result in
    let inside = stage-inside p.netlist p c.stages-stage-items.ensures.shape k s (item-at p.stages c.stages-stage-items.result.now k s c.stages-stage-items.ensures.stages c.loop-stage-test.true c.stage-item.is) in
    let own = subst (All (λ (g : StageCell). g.out.0 < length p.netlist.nets)) (sym c.cells_of.ensures) inside i d lt in
    let sized = c.loop-stage.invariant.sized in
    let same = ap length c.deref_mut.ensures.value in
    omega (arith, own, sized, same)

-- whether a net is one of the first stages, with one stage more
one_more : (net : ℕ) (stages : List StageData) (k : ℕ) (s : StageData) → k < length stages → s ≡ get_or stages k s → (is_stage_net net (take k stages) || is_driven net s.cells) ≡ is_stage_net net (take (k + 1) stages)
one_more net stages k s lt is =
    let drives = λ (x : StageData). is_driven net x.cells in
    ap (λ b. is_stage_net net (take k stages) || b) (sym (or-false (drives s))) ∙ sym (list_any-append drives (take k stages) (s ∷ [])) ∙ ap (list_any drives) (ap (λ x. take k stages ++ x ∷ []) is ∙ sym (take_more stages k s lt))

pub loop-stage-preserved : goal.loop-stage-preserved
loop-stage-preserved c =
    let p = c.args.pipeline.now in
    let k = c.loop-stage.stage-index in
    let s = c.stage-item.result in
    let marks = c.loop-stage.marks.items in
    let items = c.stages-stage-items.ensures.stages in
    let all = ap length items in
    let many : length c.mark.new.marks ≡ length marks = c.mark.auto.marks ∙ ap length c.deref_mut.ensures.value in
    let sized = many ∙ c.loop-stage.invariant.sized in
    let at_each : AreStageNets p.netlist p.stages (k + 1) c.mark.new.marks = record {
      sized = sized;
      each = λ net lt.
          let old : get_or c.deref_mut.result.now net false ≡ is_stage_net net (take k p.stages) = ap (λ l. get_or l net false) c.deref_mut.ensures.value ∙ c.loop-stage.invariant.each net lt in
          c.mark.ensures net (omega (arith, lt, sized, c.mark.auto.marks)) ∙ (λ i. old i || is_driven net (c.cells_of.ensures i)) ∙ one_more net p.stages k s (omega (arith, all, c.loop-stage-test.true)) (c.stage-item.is ∙ ap (λ l. get_or l k s) items);
    } in
    subst (AreStageNets p.netlist p.stages (k + 1)) (sym (take-written c.loop-stage.marks.len c.mark.new.marks marks c.loop-stage.marks.ok.0 many)) at_each

pub returns : goal.returns
returns c =
    let all = ap length c.stages-stage-items.ensures.stages in
    record {
      sized = c.loop-stage.invariant.sized;
      each = λ net lt. c.loop-stage.invariant.each net lt ∙ ap (is_stage_net net) (take_all c.loop-stage.stage-index c.args.pipeline.now.stages (omega (arith, all, c.loop-stage-test.false)));
    }
