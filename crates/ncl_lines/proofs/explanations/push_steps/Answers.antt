use Rattle.std.proofs.Common.{◌++◌, ◌+◌, take, get_or, sym, ap, ◌∙◌, append_assoc}
use Rattle.ncl_shape.specs.declared.item.Item.{Item}
use Rattle.ncl_shape.specs.declared.item.Item.TheVariants.{Cell as Fire}
use Rattle.ncl_lines.specs.WhyText.{step_line, step_lines}
use Rattle.ncl_lines.proofs.WrittenSteps.{steps_at}
use Rattle.ncl_lines.proofs.explanations.push_steps.Goals as goal

pub loop-place-preserved : goal.loop-place-preserved
loop-place-preserved c =
    let n = c.args.pipeline.now.netlist in
    let run = c.args.run.now in
    let place = c.loop-place.place in
    let first : Item = Fire (record { 0 = 0 }) in
    let item : Item = get_or run place first in
    let old = c.args.text.now.items in
    c.in_ok-push_step.ensures ∙ ap (λ text. text ++ step_line n (place + 1) item) c.loop-place.invariant
    ∙ append_assoc old (step_lines n 1 (take place run)) (step_line n (place + 1) item)
    ∙ ap (λ lines. old ++ lines) (sym (steps_at n run place first c.loop-place-test.true))
