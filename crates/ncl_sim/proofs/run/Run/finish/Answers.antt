use Rattle.ncl_sim.proofs.Turning.{DelaysData, HasDelays, Hazard, IsFor, IsStopped, Option, PipelineData, Run, Some, Turned, ap, arith, candidate, length, meaning, most_steps, number_count, popped-time, popped-within, stopped-over, stopped-quiet, subst, sym, ℕ, ◌<◌, ◌∙◌, ◌≡◌}
use Rattle.ncl_sim.proofs.run.Run.finish.Goals as goal

pub returns-then-len-most-clause-stopped : goal.returns-then-len-most-clause-stopped
returns-then-len-most-clause-stopped c =
    let long : length c.loop-time.self.steps.items ≡ c.args.most = omega (arith, c.loop-time.self.steps.ok.0, c.len.ensures, c.if-len-most.true) in
    stopped-over c.args.course.now.pipeline c.args.course.now.delays _ c.in-Some.time c.in-Some.number
    (record { waits = c.loop-time.self.agenda; under_way = c.loop-time.invariant.0; first = c.in-Some.ensures.first; agenda = c.in-Some.ensures.taken })
    (long ∙ c.requires.most ∙ ap (most_steps c.args.course.now.pipeline) (sym c.loop-time.invariant.1))

pub turn-requires-clause-within : goal.turn-requires-clause-within
turn-requires-clause-within c =
    popped-within c.args.course.now.pipeline c.args.course.now.delays (record { state = c.loop-time.self.state; agenda = c.take_first.new.self; steps = c.loop-time.self.steps }) c.in-Some.time c.in-Some.number
    (record { waits = c.loop-time.self.agenda; under_way = c.loop-time.invariant.0; first = c.in-Some.ensures.first; agenda = c.in-Some.ensures.taken })

pub turn-requires-clause-time : goal.turn-requires-clause-time
turn-requires-clause-time c =
    let time =
    popped-time c.args.course.now.pipeline c.args.course.now.delays (record { state = c.loop-time.self.state; agenda = c.take_first.new.self; steps = c.loop-time.self.steps }) c.in-Some.time c.in-Some.number (subst HasDelays c.delays.ensures c.facts.ensures)
    (record { waits = c.loop-time.self.agenda; under_way = c.loop-time.invariant.0; first = c.in-Some.ensures.first; agenda = c.in-Some.ensures.taken }) in
    omega (arith, time, c.loop-time.invariant.2, c.requires.few)

pub returns-clause-stopped : goal.returns-clause-stopped
returns-clause-stopped c = stopped-quiet c.args.course.now.pipeline c.args.course.now.delays c.loop-time.self _ c.loop-time.invariant.0 c.in_default.ensures.none

pub turn-requires-clause-few : goal.turn-requires-clause-few
turn-requires-clause-few c =
    let most = c.requires.most ∙ ap (most_steps c.args.course.now.pipeline) (sym c.loop-time.invariant.1) in
    omega (arith, most, c.loop-time.self.steps.ok.0, c.len.ensures, c.if-len-most.false, c.loop-time.invariant.2)

pub turn-requires-clause-popped : goal.turn-requires-clause-popped
turn-requires-clause-popped c = record { waits = c.loop-time.self.agenda; under_way = c.loop-time.invariant.0; first = c.in-Some.ensures.first; agenda = c.in-Some.ensures.taken }

-- a number was lost
told_lost : (p : PipelineData) (d : DelaysData) (r : Run) (time : ℕ) (found : Option ℕ) (k : ℕ) → found ≡ Some k → Turned p d r time found → Turned p d r time (Some k)
told_lost p d r time found k is told = subst (Turned p d r time) is told

pub candidate-item-requires-clause-made : goal.candidate-item-requires-clause-made
candidate-item-requires-clause-made c =
    subst (λ p. IsFor p c.turn.new.self.state) (sym c.pipeline.ensures)
    (told_lost c.args.course.now.pipeline c.args.course.now.delays c.turn.new.self c.in-Some.time _ c.in-Some-2.lost c.in-Some-2.is c.in_ok-lost.ensures.turned).2

pub candidate-item-requires-clause-within : goal.candidate-item-requires-clause-within
candidate-item-requires-clause-within c =
    subst (λ p. c.in-Some-2.lost < number_count p) (sym c.pipeline.ensures)
    (told_lost c.args.course.now.pipeline c.args.course.now.delays c.turn.new.self c.in-Some.time _ c.in-Some-2.lost c.in-Some-2.is c.in_ok-lost.ensures.turned).1

pub returns-in-Some-2-clause-stopped : goal.returns-in-Some-2-clause-stopped
returns-in-Some-2-clause-stopped c =
    let p = c.args.course.now.pipeline in
    let r = c.turn.new.self in
    subst (λ item. IsStopped p c.args.course.now.delays r (Hazard item c.in-Some.time)) (sym (c.candidate-item.ensures.candidate ∙ ap (λ q. candidate q (meaning r.state) c.in-Some-2.lost) c.pipeline.ensures))
    (told_lost p c.args.course.now.delays r c.in-Some.time _ c.in-Some-2.lost c.in-Some-2.is c.in_ok-lost.ensures.turned).0
