-- A timed run asks nothing of a pipeline's stages, so the pipelines of one netlist have the same timed runs.
use Rattle.ncl_sim.proofs.Terms.{Bool, ComesFirst, DelaysData, End, Ends, Fire, Fired, IsLost, IsNext, IsSamePipeline, IsTimedRun, Item, List, LosesNone, Lower, NetlistData, Nets, None, Option, PipelineData, Raise, Ready, Shape, Some, StageData, State, Take, TraceData, [], after-same, ap, arith, delay_of, due_after, due_along, due_from, due_next, due_step, enabled, enabled-same, false, if◌then◌else◌, inl, inr, item_number, items_in, lost, other-is, over, quiet, refl, reset, rises, run-same, shape_is_one, state_after, step, step-same, subst, sym, true, with_stages, ℕ, ◌+◌, ◌==◌, ◌∙◌, ◌∷◌, ◌≡◌}

module _ (p : PipelineData) (stages : List StageData) where
  abbrev q : PipelineData
  q = with_stages p stages

  -- ---- its items have the numbers and the directions of the pipeline's

  number-same : (item : Item) → item_number q item ≡ item_number p item
  number-same (Fire cell) = refl
  number-same (Raise bit) = refl
  number-same (Lower bit) = refl
  number-same Take = refl
  number-same Ready = refl

  rises-same : (v : Nets) (item : Item) → rises q v item ≡ rises p v item
  rises-same v (Fire cell) = refl
  rises-same v (Raise bit) = refl
  rises-same v (Lower bit) = refl
  rises-same v Take = refl
  rises-same v Ready = refl

  -- ---- so they lead to the same states

  state-same : (offered : List (List Bool)) (steps : List Fired) → state_after q offered steps ≡ state_after p offered steps
  state-same offered steps = after-same p stages (items_in steps) (reset p offered)

  enabled_after-same : (offered : List (List Bool)) (steps : List Fired) (item : Item) → enabled q (state_after q offered steps) item ≡ enabled p (state_after p offered steps) item
  enabled_after-same offered steps item = enabled-same p stages (state_after q offered steps) item ∙ ap (λ s. enabled p s item) (state-same offered steps)

  -- ---- and are due at the same times

  from-same : (d : DelaysData) (s : State) (item : Item) (time : ℕ) → due_from q d s item time ≡ due_from p d s item time
  from-same d s item time = ap (λ up. Some (time + delay_of d item up)) (rises-same s.value item)

  next_due-same : (d : DelaysData) (s : State) (item : Item) (own : Bool) (time : ℕ) (before : Option ℕ) → due_next q d s item own time before ≡ due_next p d s item own time before
  next_due-same d s item true time before = from-same d s item time
  next_due-same d s item false time None = from-same d s item time
  next_due-same d s item false time (Some due) = refl

  step_due-same : (d : DelaysData) (s : State) (f : Fired) (item : Item) (before : Option ℕ) → due_step q d s f item before ≡ due_step p d s f item before
  step_due-same d s f item before =
      let due : due_next q d s item (item_number q f.item == item_number q item) f.time before ≡ due_next p d s item (item_number p f.item == item_number p item) f.time before =
      next_due-same d s item (item_number q f.item == item_number q item) f.time before
      ∙ (λ i. due_next p d s item (number-same f.item i == number-same item i) f.time before) in
      λ i. if enabled-same p stages s item i then due i else None

  along-same : (d : DelaysData) (item : Item) (s : State) (before : Option ℕ) (steps : List Fired) → due_along q d item s before steps ≡ due_along p d item s before steps
  along-same d item s before [] = refl
  along-same d item s before (f ∷ steps) =
      ap (λ t. due_along q d item t (due_step q d t f item before) steps) (step-same p stages s f.item)
      ∙ ap (λ due. due_along q d item (step p s f.item) due steps) (step_due-same d (step p s f.item) f item before)
      ∙ along-same d item (step p s f.item) (due_step p d (step p s f.item) f item before) steps

  due-same : (d : DelaysData) (offered : List (List Bool)) (steps : List Fired) (item : Item) → due_after q d offered steps item ≡ due_after p d offered steps item
  due-same d offered steps item =
      ap (λ due. due_along q d item (reset p offered) due steps)
      (λ i. if enabled-same p stages (reset p offered) item i then from-same d (reset p offered) item 0 i else None)
      ∙ along-same d item (reset p offered) (if enabled p (reset p offered) item then due_from p d (reset p offered) item 0 else None) steps

  -- ---- so the same entry is next, and the same items are lost

  first-same : (f : Fired) (due : ℕ) (other : Item) → ComesFirst p f due other → ComesFirst q f due other
  first-same f due other (inl sooner) = inl sooner
  first-same f due other (inr (same, least)) = inr (same, omega (arith, number-same f.item, number-same other, least))

  next-same : (d : DelaysData) (offered : List (List Bool)) (before : List Fired) (f : Fired) → IsNext p d offered before f → IsNext q d offered before f
  next-same d offered before f next = record {
    due = due-same d offered before f.item ∙ next.due;
    first = λ other due is. first-same f due other (next.first other due (sym (due-same d offered before other) ∙ is));
  }

  lost-same : (offered : List (List Bool)) (steps : List Fired) (item : Item) → IsLost p offered steps item → IsLost q offered steps item
  lost-same offered steps item is = record {
    before = is.before;
    last = is.last;
    split = is.split;
    other = λ same. is.other (sym (number-same is.last.item) ∙ same ∙ number-same item);
    was = enabled_after-same offered is.before item ∙ is.was;
    gone = enabled_after-same offered steps item ∙ is.gone;
  }

-- ---- and both ways, since the pipeline is the other with its own stages

none-same : (p : PipelineData) (stages : List StageData) (offered : List (List Bool)) (steps : List Fired) → LosesNone p offered steps → LosesNone (with_stages p stages) offered steps
none-same p stages offered steps none item is = none item (lost-same (with_stages p stages) p.stages offered steps item is)

ends-same : (p : PipelineData) (stages : List StageData) (offered : List (List Bool)) (steps : List Fired) (end : End) → Ends p offered steps end → Ends (with_stages p stages) offered steps end
ends-same p stages offered steps end (lost item is least) =
    lost item (lost-same p stages offered steps item is)
    (λ other is_other.
    omega (
      arith,
      number-same p stages item,
      number-same p stages other,
      least other (lost-same (with_stages p stages) p.stages offered steps other is_other),
    ))
ends-same p stages offered steps end (quiet none off) =
    quiet (none-same p stages offered steps none) (λ item. enabled_after-same p stages offered steps item ∙ off item)
ends-same p stages offered steps end (over none many item on) =
    over (none-same p stages offered steps none) many item (enabled_after-same p stages offered steps item ∙ on)

timed-same : (p : PipelineData) (stages : List StageData) (d : DelaysData) (offered : List (List Bool)) (t : TraceData) → IsTimedRun p d offered t → IsTimedRun (with_stages p stages) d offered t
timed-same p stages d offered t is = record {
  run = run-same (with_stages p stages) p.stages (items_in t.steps) (reset p offered) is.run;
  next = λ before rest f at. next-same p stages d offered before f (is.next before rest f at);
  goes_on = λ before rest f end at ends. is.goes_on before rest f end at (ends-same (with_stages p stages) p.stages offered before end ends);
  ends = ends-same p stages offered t.steps t.end is.ends;
  times = is.times;
  pairs = is.pairs ∙ ap (λ (s : State). s.delivered) (sym (state-same p stages offered t.steps));
}

-- a timed run of a pipeline of a netlist is one of each
pub same_runs : (n : NetlistData) (p : PipelineData) (q : PipelineData) (d : DelaysData) (offered : List (List Bool)) (t : TraceData) → Shape n p → Shape n q → IsTimedRun p d offered t → IsTimedRun q d offered t
same_runs n p q d offered t shape_p shape_q is =
    let same : IsSamePipeline p q = shape_is_one n shape_p.is_netlist p q shape_p shape_q in
    subst (λ (r : PipelineData). IsTimedRun r d offered t) (other-is p q same) (timed-same p q.stages d offered t is)
