use Rattle.ncl_decomp.proofs.Terms.{AddsSum, Frame, IfSome, IsSameSum, ap, arith, count_by, has, length, subst, sym, total, under, ◌++◌, ◌∙◌, ◌≡◌, ◌≤◌}
use Rattle.ncl_decomp.proofs.Frames.{AddsSum-start, AddsSum-parted, AddsSum-closed, frames_room, parted_less, closed_less}
use Rattle.ncl_decomp.proofs.factoring.factored.Goals as goal

pub loop-frames-init : goal.loop-frames-init
loop-frames-init c = AddsSum-start c.args.sum.items c.args.nodes.now.items c.new-frames.result.items c.new-frames.ensures.items

pub loop-frames-preserved-in-Some : goal.loop-frames-preserved-in-Some
loop-frames-preserved-in-Some c =
    let frame : Frame = record { literal = c.in-Some.literal; others = c.from_vec-others.result } in
    AddsSum-parted c.args.sum.items c.loop-frames.sum.items c.in_ok-others-in-Some.others.items c.in_ok-others-in-Some.rests.items c.args.nodes.now.items c.loop-frames.nodes.items c.loop-frames.frames.items c.push.new.self.items frame c.loop-frames.invariant
    (subst (λ sum. IsSameSum sum (c.in_ok-others-in-Some.others.items ++ under c.in-Some.literal c.in_ok-others-in-Some.rests.items)) c.deref-in-Some.ensures.value c.in_ok-others-in-Some.ensures.same)
    c.from_vec-others.ensures c.in_ok-push-in-Some.ensures.items

pub closed-requires : goal.closed-requires
closed-requires c = record {
  few = omega (arith, ap total c.deref-in-Some-pop.ensures.value, frames_room c.args.sum.items c.loop-frames.sum.items c.args.nodes.now.items c.loop-frames.nodes.items c.loop-frames.frames.items c.loop-frames.invariant, c.requires.few);
}

pub loop-frames-preserved : goal.loop-frames-preserved
loop-frames-preserved c =
    AddsSum-closed c.args.sum.items c.loop-frames.sum.items c.in_ok-sum-in-Some-pop.sum.items c.args.nodes.now.items c.loop-frames.nodes.items c.closed.new.nodes.items c.loop-frames.frames.items c.pop.new.self.items c.in-Some-pop.frame c.loop-frames.invariant c.in-Some-pop.ensures.items
    (subst (λ sum. AddsSum (c.in-Some-pop.frame.others ++ under c.in-Some-pop.frame.literal sum) c.loop-frames.nodes.items c.closed.new.nodes.items c.in_ok-sum-in-Some-pop.sum.items) c.deref-in-Some-pop.ensures.value c.in_ok-sum-in-Some-pop.ensures.adds)

-- two products have the signal
common_two : (c : goal.After-drop-sum-in-Some) → 2 ≤ count_by (has c.in-Some.literal) c.deref.result.now
common_two c =
    subst (λ o. IfSome o (λ literal. 2 ≤ count_by (has literal) c.deref.result.now)) c.in-Some.is c.in_ok-literal.ensures

pub loop-frames-smaller-in-Some : goal.loop-frames-smaller-in-Some
loop-frames-smaller-in-Some c =
    let frame : Frame = record { literal = c.in-Some.literal; others = c.from_vec-others.result } in
    let sum : c.deref-in-Some.result.now ≡ c.loop-frames.sum.items = c.deref-in-Some.ensures.value in
    let first : c.deref.result.now ≡ c.loop-frames.sum.items = c.deref.ensures.value in
    let two : 2 ≤ length c.in_ok-others-in-Some.rests.items =
    omega (arith, c.in_ok-others-in-Some.ensures.having, ap (λ sum. count_by (has c.in-Some.literal) sum) (sum ∙ sym first), common_two c) in
    parted_less c.in-Some.literal c.loop-frames.sum.items c.in_ok-others-in-Some.others.items c.in_ok-others-in-Some.rests.items c.loop-frames.frames.items c.push.new.self.items frame
    (subst (λ sum. IsSameSum sum (c.in_ok-others-in-Some.others.items ++ under c.in-Some.literal c.in_ok-others-in-Some.rests.items)) sum c.in_ok-others-in-Some.ensures.same) two
    c.from_vec-others.ensures c.in_ok-push-in-Some.ensures.items

pub loop-frames-smaller : goal.loop-frames-smaller
loop-frames-smaller c =
    closed_less c.loop-frames.sum.items c.in_ok-sum-in-Some-pop.sum.items c.loop-frames.frames.items c.pop.new.self.items c.in-Some-pop.frame c.in-Some-pop.ensures.items
    (omega (arith, ap total c.deref-in-Some-pop.ensures.value, c.in_ok-sum-in-Some-pop.ensures.short))
