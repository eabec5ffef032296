use Rattle.ncl_sim.proofs.Terms.{AreWordsOf, Bool, DelaysData, Fired, GoesOn, IsFor, IsTracked, IsUnderWay, List, LosesNone, PipelineData, Run, State, [], ap, meaning, reset, state_after, subst, sym, ◌++◌, ◌∙◌, ◌∷◌, ◌≡◌}
use Rattle.ncl_sim.proofs.run.Run.begin.Goals as goal

apart : (before rest : List Fired) (f : Fired) → [] ≡ before ++ f ∷ rest → ⊥
apart [] rest f e = absurd cc
apart (x ∷ before) rest f e = absurd cc

-- a run without a step is under way
begun : (p : PipelineData) (d : DelaysData) (r : Run) → r.steps.items ≡ [] → IsFor p r.state → meaning r.state ≡ reset p r.state.offered → IsTracked p d r.state.offered [] r.agenda → IsUnderWay p d r
begun p d r none made state waits = record {
  made = made;
  state = state ∙ ap (state_after p r.state.offered) (sym none);
  goes_on = subst (GoesOn p d r.state.offered) (sym none) (record { run = tt; next = λ before rest f e. absurd (apart before rest f e); goes_on = λ before rest f end e ends. apart before rest f e });
  none_lost = subst (LosesNone p r.state.offered) (sym none) (λ item lost. apart lost.before [] lost.last lost.split);
  waits = subst (λ steps. IsTracked p d r.state.offered steps r.agenda) (sym none) waits;
}

-- the state after reset is that of its own words
own : (p q : PipelineData) (words : List (List Bool)) (s : State) → q ≡ p → s ≡ reset q words → s ≡ reset p s.offered
own p q words s same is = let at : s ≡ reset p words = is ∙ ap (λ (r : PipelineData). reset r words) same in at ∙ ap (λ (t : State). reset p t.offered) (sym at)

pub new-requires : goal.new-requires
new-requires c = subst (λ (p : PipelineData). AreWordsOf p c.args.words.now) (sym c.pipeline.ensures) c.requires.words

pub started-requires-clause-made : goal.started-requires-clause-made
started-requires-clause-made c = subst (λ (p : PipelineData). IsFor p c.in_ok-state.state) c.pipeline.ensures c.in_ok-state.ensures.made

pub started-requires-clause-reset : goal.started-requires-clause-reset
started-requires-clause-reset c = own c.args.course.now.pipeline c.pipeline.result.now c.args.words.now (meaning c.in_ok-state.state) c.pipeline.ensures c.in_ok-state.ensures.reset

pub returns-clause-under_way : goal.returns-clause-under_way
returns-clause-under_way c =
    begun c.args.course.now.pipeline c.args.course.now.delays (record { state = c.in_ok-state.state; agenda = c.in_ok-agenda.agenda; steps = c.new-2.result }) c.new-2.ensures.items
    (subst (λ (p : PipelineData). IsFor p c.in_ok-state.state) c.pipeline.ensures c.in_ok-state.ensures.made)
    (own c.args.course.now.pipeline c.pipeline.result.now c.args.words.now (meaning c.in_ok-state.state) c.pipeline.ensures c.in_ok-state.ensures.reset)
    c.in_ok-agenda.ensures

pub returns-clause-offered : goal.returns-clause-offered
returns-clause-offered c = ap (λ (s : State). s.offered) c.in_ok-state.ensures.reset

pub returns-clause-steps : goal.returns-clause-steps
returns-clause-steps c = c.new-2.ensures.items
