use Rattle.ncl_sim.proofs.Looks.{IsStarting, None, Option, ap, arith, look_at, number_count, replicate, starting, starts_at, subst, sym, ℕ, ◌+◌, ◌<◌, ◌∙◌, ◌≡◌}
use Rattle.ncl_sim.proofs.looking.started.Goals as goal

pub loop-number-init : goal.loop-number-init
loop-number-init c =
    let made : c.in_ok-agenda.agenda ≡ replicate (number_count c.args.course.now.pipeline) None = c.in_ok-agenda.ensures ∙ ap (λ (n : ℕ). replicate {A = Option ℕ} n None) (c.number_count-count.ensures ∙ ap number_count c.pipeline.ensures) in
    subst (IsStarting c.args.course.now.pipeline c.args.course.now.delays c.args.state.now.offered 0) (sym made) (starting c.args.course.now.pipeline c.args.course.now.delays c.args.state.now.offered)

pub loop-number-preserved : goal.loop-number-preserved
loop-number-preserved c =
    let lt : c.loop-number.number < number_count c.args.course.now.pipeline = omega (arith, c.loop-number-test.true, c.number_count-count.ensures ∙ ap number_count c.pipeline.ensures) in
    subst (IsStarting c.args.course.now.pipeline c.args.course.now.delays c.args.state.now.offered (c.loop-number.number + 1))
    (sym (c.in_ok-look.ensures.waits ∙ ap (λ s. look_at c.args.course.now.pipeline c.args.course.now.delays s 0 c.loop-number.agenda c.loop-number.number) c.requires.reset))
    (starts_at c.args.course.now.pipeline c.args.course.now.delays c.args.state.now.offered c.loop-number.number c.loop-number.agenda c.loop-number.invariant lt)
