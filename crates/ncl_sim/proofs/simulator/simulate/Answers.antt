use Rattle.ncl_sim.proofs.Quiet.{DeliversAll, IfOk-weaker, IsTimedRun, Quiet, ap, arith, few_due, few_steps, length, sound-delivers, sound-ends_quiet, subst, ◌+◌, ◌≡◌}
use Rattle.std.specs.Result.{IfOk}
use Rattle.ncl_sim.proofs.simulator.simulate.Goals as goal

pub overflow_add-due : goal.overflow_add-due
overflow_add-due c = omega (arith, few_due _ c.args.pipeline.now c.args.words.now c.facts.ensures, c.data_banks.ensures, c.requires.few)

pub overflow_mul-most : goal.overflow_mul-most
overflow_mul-most c = omega (arith, few_due _ c.args.pipeline.now c.args.words.now c.facts.ensures, c.data_banks.ensures, c.requires.few)

pub run_of-requires-clause-few : goal.run_of-requires-clause-few
run_of-requires-clause-few c =
    few_steps (c.data_banks.result + length c.args.words.now) (length c.nets-nets.result.now)
    (omega (arith, few_due _ c.args.pipeline.now c.args.words.now c.facts.ensures, c.data_banks.ensures, c.requires.few))
    (omega (arith, c.nets-nets.ensures.netlist.few_nets, ap length c.nets-nets.ensures.nets))

pub overflow_mul-most-2 : goal.overflow_mul-most-2
overflow_mul-most-2 c =
    omega (
      arith,
      few_steps (c.data_banks.result + length c.args.words.now) (length c.nets-nets.result.now)
          (omega (arith, few_due _ c.args.pipeline.now c.args.words.now c.facts.ensures, c.data_banks.ensures, c.requires.few))
          (omega (arith, c.nets-nets.ensures.netlist.few_nets, ap length c.nets-nets.ensures.nets)),
    )

pub returns-clause-run : goal.returns-clause-run
returns-clause-run c =
    subst (λ p. IfOk c.run_of.result (IsTimedRun p c.args.delays.now c.args.words.now)) c.in_ok-course.ensures.pipeline
    (subst (λ d. IfOk c.run_of.result (IsTimedRun c.in_ok-course.course.pipeline d c.args.words.now)) c.in_ok-course.ensures.delays c.run_of.ensures)

pub returns-clause-quiet : goal.returns-clause-quiet
returns-clause-quiet c = λ sound.
    IfOk-weaker c.run_of.result (IsTimedRun c.args.pipeline.now c.args.delays.now c.args.words.now) (λ t. t.end ≡ Quiet)
    (λ t. sound-ends_quiet _ c.args.pipeline.now c.args.delays.now c.args.words.now t c.facts.ensures sound c.requires.wide) (returns-clause-run c)

pub returns-clause-delivered : goal.returns-clause-delivered
returns-clause-delivered c = λ sound.
    IfOk-weaker c.run_of.result (IsTimedRun c.args.pipeline.now c.args.delays.now c.args.words.now) (DeliversAll c.args.pipeline.now c.args.words.now)
    (λ t. sound-delivers _ c.args.pipeline.now c.args.delays.now c.args.words.now t c.facts.ensures sound c.requires.wide) (returns-clause-run c)
