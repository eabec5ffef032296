-- Plans, one step further.
use Rattle.ncl_plans.proofs.Terms.{Adds, AddsOp, All, All-head, All-push, All-tail, And, Arg, Bool, IsPool, IsSource, List, Signal, Small, Step, [], ap, append_assoc, arg_value, bits_of, false, get_or, length, map, map_push, op_value, refl, signal_value, step_value, step_values, subst, sym, take, take_more, ℕ, ◌++◌, ◌+◌, ◌<◌, ◌∙◌, ◌∷◌, ◌≡◌}
use Rattle.ncl_plans.proofs.Pools.{Adds-exists, Adds-keeps}

pub step_values-push : (bits : List Bool) (steps : List Step) (step : Step) → step_values bits (steps ++ step ∷ []) ≡ step_values bits steps ++ step_value (step_values bits steps) step ∷ []
step_values-push bits [] step = refl
step_values-push bits (first ∷ steps) step = step_values-push (bits ++ step_value bits first ∷ []) steps step

-- what stands for a step where there is none
abbrev pub no_step : Step
no_step = record { op = And; first = record { place = 0; inverted = false }; second = record { place = 0; inverted = false }; third = record { place = 0; inverted = false } }

pub step_values-more : (bits : List Bool) (steps : List Step) (i : ℕ) (d : Step) (now new : List Bool) → i < length steps → now ≡ step_values bits (take i steps) → new ≡ now ++ step_value now (get_or steps i d) ∷ [] → new ≡ step_values bits (take (i + 1) steps)
step_values-more bits steps i d now new within before pushed =
    let step : Step = get_or steps i d in
    let upto : take (i + 1) steps ≡ take i steps ++ step ∷ [] = take_more steps i d within in
    pushed ∙ (λ j. before j ++ step_value (before j) step ∷ []) ∙ sym (step_values-push bits (take i steps) step) ∙ ap (step_values bits) (sym upto)

-- what an argument is among signals
pub record IsArg (signals : List Signal) (arg : Arg) (signal : Signal) : Type 0 where
  pub value : (word nodes : List Bool) → signal_value word nodes signal ≡ arg_value (map (signal_value word nodes) signals) arg
  pub exists : (inputs count : ℕ) → All (λ (s : Signal). IsSource inputs count s.from) signals → IsSource inputs count signal.from

-- steps over leaves are added to small nodes: these signals have their bits
pub record AreApplied (inputs : ℕ) (before : List Small) (leaves : List Signal) (done : List Step) (now : List Small) (signals : List Signal) : Type 0 where
  pub made : List Small
  pub added : now ≡ before ++ made
  pub fine : IsPool inputs now
  pub exist : All (λ (s : Signal). IsSource inputs (length now) s.from) signals
  pub gives : (word : List Bool) → map (signal_value word (bits_of word now)) signals ≡ step_values (map (signal_value word (bits_of word before)) leaves) done

kept_all : (inputs : ℕ) (now next : List Small) (value : List Bool → List Bool → Bool) (signal : Signal) → Adds inputs now next value signal → (word : List Bool) (signals : List Signal) → All (λ (s : Signal). IsSource inputs (length now) s.from) signals → map (signal_value word (bits_of word next)) signals ≡ map (signal_value word (bits_of word now)) signals
kept_all inputs now next value signal adds word signals exist = kept_each signals exist
  where
    kept_each : (signals : List Signal) → All (λ (s : Signal). IsSource inputs (length now) s.from) signals → map (signal_value word (bits_of word next)) signals ≡ map (signal_value word (bits_of word now)) signals
    kept_each [] exist = refl
    kept_each (s ∷ signals) exist =
        let first : signal_value word (bits_of word next) s ≡ signal_value word (bits_of word now) s = Adds-keeps inputs now next value signal adds word s (All-head (λ (x : Signal). IsSource inputs (length now) x.from) s signals exist) in
        let rest = kept_each signals (All-tail (λ (x : Signal). IsSource inputs (length now) x.from) s signals exist) in
        λ i. first i ∷ rest i

module _ (inputs : ℕ) (before : List Small) (leaves : List Signal) (done : List Step) (now : List Small) (signals : List Signal) (applied : AreApplied inputs before leaves done now signals) where
  pub AreApplied-more : (step : Step) (first second third signal : Signal) (next : List Small) (longer : List Signal) → IsArg signals step.first first → IsArg signals step.second second → IsArg signals step.third third → AddsOp step.op first second third now next signal → longer ≡ signals ++ signal ∷ [] → AreApplied inputs before leaves (done ++ step ∷ []) next longer
  AreApplied-more step first second third signal next longer is_first is_second is_third adds_op pushed =
      let value = λ (word nodes : List Bool). op_value step.op (signal_value word nodes first) (signal_value word nodes second) (signal_value word nodes third) in
      let adds : Adds inputs now next value signal = adds_op inputs applied.fine (is_first.exists inputs (length now) applied.exist) (is_second.exists inputs (length now) applied.exist) (is_third.exists inputs (length now) applied.exist) in
      record {
        made = applied.made ++ adds.made;
        added = adds.added ∙ ap (λ front. front ++ adds.made) applied.added ∙ append_assoc before applied.made adds.made;
        fine = adds.fine;
        exist = subst (All (λ (s : Signal). IsSource inputs (length next) s.from)) (sym pushed)
            (All-push (λ (s : Signal). IsSource inputs (length next) s.from) signals signal (λ i d within. Adds-exists inputs now next value signal adds (get_or signals i d) (applied.exist i d within)) adds.exists);
        gives = λ word.
            let bits : List Bool = map (signal_value word (bits_of word now)) signals in
            let here : signal_value word (bits_of word next) signal ≡ step_value bits step =
            adds.gives word ∙ (λ i. op_value step.op (is_first.value word (bits_of word now) i) (is_second.value word (bits_of word now) i) (is_third.value word (bits_of word now) i)) in
            let whole = step_values (map (signal_value word (bits_of word before)) leaves) done in
            ap (map (signal_value word (bits_of word next))) pushed
            ∙ map_push (signal_value word (bits_of word next)) signals signal
            ∙ (λ i. kept_all inputs now next value signal adds word signals applied.exist i ++ here i ∷ [])
            ∙ (λ i. applied.gives word i ++ step_value (applied.gives word i) step ∷ [])
            ∙ sym (step_values-push (map (signal_value word (bits_of word before)) leaves) done step);
      }

  pub Adds-applied : (out : Arg) (signal : Signal) → IsArg signals out signal → Adds inputs before now (λ word nodes. arg_value (step_values (map (signal_value word nodes) leaves) done) out) signal
  Adds-applied out signal is = record {
    made = applied.made;
    added = applied.added;
    fine = applied.fine;
    exists = is.exists inputs (length now) applied.exist;
    gives = λ word. is.value word (bits_of word now) ∙ ap (λ bits. arg_value bits out) (applied.gives word);
  }
