-- The machine reads nothing of a pipeline's stages, and what is asked of them is asked of their outputs alone; so
-- the order of their gates doesn't matter.
use Rattle.ncl_insensitivity.proofs.Terms.{AfterEveryRun, AllZip, AlternatesWithNull, Bank, Bool, Contains, Contains-from_Member, DeliversInTime, DeliversWhatIsDue, Fire, IsDelayInsensitive, IsLegalState, IsPersistent, IsRunFrom, IsSamePipeline, IsSameStage, Item, List, Lower, Member, Member-from_Contains, PassesNull, PipelineData, Raise, Ready, RestsWhereQuiet, StageData, State, Take, [], after, ap, due, enabled, function_at, function_of, held_words, here, if◌then◌else◌, is_data_bank, is_null, length, map, refl, reset, slice_get, step, subst, sym, there, ◌++◌, ◌∙◌, ◌∷◌, ◌≡◌}

-- a pipeline with other stages
abbrev pub with_stages : PipelineData → List StageData → PipelineData
with_stages p stages = record p { stages = stages }

module _ (p : PipelineData) (stages : List StageData) where
  abbrev pub q : PipelineData
  q = with_stages p stages

  -- ---- it moves as the pipeline does

  both-same : (s : State) (item : Item) → (enabled q s item ≡ enabled p s item) × (step q s item ≡ step p s item)
  both-same s (Fire i) = (refl, refl)
  both-same s (Raise b) = (refl, refl)
  both-same s (Lower b) = (refl, refl)
  both-same s Take = (refl, refl)
  both-same s Ready = (refl, refl)

  pub enabled-same : (s : State) (item : Item) → enabled q s item ≡ enabled p s item
  enabled-same s item = (both-same s item).0

  pub step-same : (s : State) (item : Item) → step q s item ≡ step p s item
  step-same s item = (both-same s item).1

  pub after-same : (items : List Item) (s : State) → after q s items ≡ after p s items
  after-same [] s = refl
  after-same (item ∷ items) s = ap (λ t. after q t items) (step-same s item) ∙ after-same items (step p s item)

  pub run-same : (items : List Item) (s : State) → IsRunFrom q s items → IsRunFrom p s items
  run-same [] s run = run
  run-same (item ∷ items) s (on, run) =
      (sym (enabled-same s item) ∙ on, run-same items (step p s item) (subst (λ t. IsRunFrom q t items) (step-same s item) run))

  -- ---- so its runs have the properties that the pipeline's have

  persistent-same : (s : State) → IsPersistent p s → IsPersistent q s
  persistent-same s persistent item other apart first second =
      enabled-same (step q s item) other ∙ ap (λ t. enabled p t other) (step-same s item)
      ∙ persistent item other apart (sym (enabled-same s item) ∙ first) (sym (enabled-same s other) ∙ second)

  passes-same : (s : State) (items : List Item) → PassesNull p s items → PassesNull q s items
  passes-same s items passes = record {
    before = passes.before;
    rest = passes.rest;
    split = passes.split;
    null = ap (λ t. is_null p.outputs t.value) (after-same passes.before s) ∙ passes.null;
  }

  every_run-same : (P Q : List (List Bool) → State → Type 0) → ((offered : List (List Bool)) (s : State) → P offered s → Q offered s)
      → AfterEveryRun p P → AfterEveryRun q Q
  every_run-same P Q more every offered items words run =
      subst (Q offered) (sym (after-same items (reset p offered)))
      (more offered (after p (reset p offered) items) (every offered items words (run-same items (reset p offered) run)))

  alternates-same : AlternatesWithNull p → AlternatesWithNull q
  alternates-same alternates offered xs ys zs words run =
      subst (λ t. PassesNull q t ys) (sym (step-same (after q (reset p offered) xs) Take ∙ ap (λ t. step p t Take) (after-same xs (reset p offered))))
      (passes-same _ ys (alternates offered xs ys zs words (run-same (xs ++ Take ∷ (ys ++ Take ∷ zs)) (reset p offered) run)))

  -- the same words are due
  held-same : (banks : List Bank) → held_words q banks ≡ held_words p banks
  held-same [] = refl
  held-same (b ∷ banks) = ap (λ words. words ++ (if is_data_bank b then function_at p b.request.0 ∷ [] else [])) (held-same banks)

  pub due-same : (offered : List (List Bool)) → due q offered ≡ due p offered
  due-same offered = ap (λ words. words ++ map (function_of p) offered) (held-same p.banks)

  rests-same : (offered : List (List Bool)) (s : State) → RestsWhereQuiet p offered s → RestsWhereQuiet q offered s
  rests-same offered s rests quiet =
      let at_rest = rests (λ item. sym (enabled-same s item) ∙ quiet item) in
      record { delivered = at_rest.delivered ∙ ap length (sym (due-same offered)); finished = at_rest.finished; null = at_rest.null }

  -- each of its stages has the outputs of one of the pipeline's
  legal-same : AllZip IsSameStage p.stages stages → (s : State) → IsLegalState p s → IsLegalState q s
  legal-same same s legal = record {
    banks = legal.banks;
    outputs = λ stage r listed in_outputs.
        let (own, in_stages, outputs) = matching p.stages stages same stage (Member-from_Contains stages stage listed) in
        legal.outputs own r (Contains-from_Member own in_stages) (subst (λ rs. Contains rs r) (sym outputs) in_outputs);
  }
    where
      matching : (xs ys : List StageData) → AllZip IsSameStage xs ys → (stage : StageData) → Member stage ys
          → (own : StageData) × Member own xs × (own.outputs ≡ stage.outputs)
      matching [] [] same stage m = elim m [ ]
      matching [] (y ∷ ys) same stage m = elim same [ ]
      matching (x ∷ xs) [] same stage m = elim m [ ]
      matching (x ∷ xs) (y ∷ ys) (first, rest) stage here = (x, here, first.outputs)
      matching (x ∷ xs) (y ∷ ys) (first, rest) stage (there m) = let (own, n, outputs) = matching xs ys rest stage m in (own, there n, outputs)

  insensitive-same : AllZip IsSameStage p.stages stages → IsDelayInsensitive p → IsDelayInsensitive q
  insensitive-same same insensitive = record {
    safe = record {
      persistent = every_run-same (λ offered s. IsPersistent p s) (λ offered s. IsPersistent q s) (λ offered s. persistent-same s) insensitive.safe.persistent;
      due = every_run-same (DeliversWhatIsDue p) (DeliversWhatIsDue q) (λ offered s delivers k pair at. let (word, is_due, carries) = delivers k pair at in (word, ap (λ words. slice_get words k) (due-same offered) ∙ is_due, carries)) insensitive.safe.due;
      in_time = every_run-same (λ offered s. DeliversInTime p s) (λ offered s. DeliversInTime q s) (λ offered s early. early) insensitive.safe.in_time;
      alternates = alternates-same insensitive.safe.alternates;
      legal = every_run-same (λ offered s. IsLegalState p s) (λ offered s. IsLegalState q s) (λ offered s. legal-same same s) insensitive.safe.legal;
    };
    at_rest = every_run-same (RestsWhereQuiet p) (RestsWhereQuiet q) rests-same insensitive.at_rest;
  }

-- the other is the one with its own stages
pub other-is : (p other : PipelineData) → IsSamePipeline p other → with_stages p other.stages ≡ other
other-is p other same =
    ap (λ x. record p { stages = other.stages; netlist = x }) same.netlist
    ∙ ap (λ x. record p { stages = other.stages; netlist = other.netlist; banks = x }) same.banks
    ∙ ap (λ x. record p { stages = other.stages; netlist = other.netlist; banks = other.banks; inputs = x }) same.inputs
    ∙ ap (λ x. record p { stages = other.stages; netlist = other.netlist; banks = other.banks; inputs = other.inputs; outputs = x }) same.outputs
    ∙ ap (λ x. record p { stages = other.stages; netlist = other.netlist; banks = other.banks; inputs = other.inputs; outputs = other.outputs; ki = x }) same.ki
    ∙ ap (λ x. record p { stages = other.stages; netlist = other.netlist; banks = other.banks; inputs = other.inputs; outputs = other.outputs; ki = other.ki; ko = x }) same.ko

pub same_is_insensitive : (p : PipelineData) (other : PipelineData) → IsSamePipeline p other → IsDelayInsensitive p → IsDelayInsensitive other
same_is_insensitive p other same insensitive =
    subst IsDelayInsensitive (other-is p other same) (insensitive-same p other.stages same.stages insensitive)
