-- The pipeline of the demo.
use Rattle.ncl_top.proofs.Terms.{All, All-contains, AllByRecursion, Bool, Contains-from_Member, DelaysData, DeliversAll, IsAdder, IsDemoNetlist, IsDemoPipeline, IsDemoRun, IsShapeFault, IsStage, IsTimedRun, IsUnit, List, Model, NetlistData, PipelineData, Quiet, ShapeFault, ShapeMemory, TraceData, [], ap, arith, demo_words, inl, inr, length, length-map, length-range_with_len, min, names_of_rails, no_words_held, one_verdict, range_with_len, recursion_from_members, shape_is_one, shape_is_unbroken, shape_told, sound_verdict, sym, verdict_on, width_of, ℕ, ◌*◌, ◌+◌, ◌-◌, ◌<◌, ◌∙◌, ◌∷◌, ◌≡◌, ◌≢◌, ◌⊎◌}
use Rattle.ncl_verdict.specs.declared.verdict.Verdict.TheVariants as verdict

-- its netlist has a shape, and so no fault but want of memory
pub demo_has_shape : (bits : ℕ) (n : NetlistData) → IsDemoNetlist bits n → (fault : ShapeFault) → fault ≢ ShapeMemory → IsShapeFault n fault → ⊥
demo_has_shape bits n made fault named is =
    let c = made.compiled in
    let told = shape_told n c.shape.is_netlist fault named is in
    shape_is_unbroken n c.shape.is_netlist c.pipeline c.shape told.fault told.broken.breaks

-- the first model of an adder takes the bits of both numbers
adder_width : (bits : ℕ) (models : List Model) → IsAdder bits models → 0 < bits → width_of models ≡ 2 * bits
adder_width bits [] adder some = absurd (let many = adder.many in omega arith)
adder_width bits (model ∷ models) adder some =
    let first : IsStage bits 0 model = adder.stages 0 some model in
    let wide : length model.inputs ≡ min 0 1 + 0 + 2 * (bits - 0) = first.inputs in
    omega (arith, wide)

-- words of one width
pub all_of_width : (width : ℕ) (words : List (List Bool)) → All (λ word. length word ≡ width) words → (wide : ℕ) → wide ≡ width → AllByRecursion (λ (word : List Bool). length word ≡ wide) words
all_of_width width words each wide same =
    recursion_from_members (λ word. length word ≡ wide) words (λ word m. All-contains (λ word. length word ≡ width) words word each (Contains-from_Member word m) ∙ sym same)

module _ (bits : ℕ) (p : PipelineData) (demo : IsDemoPipeline bits p) where
  -- it is accepted, or a stage passes the limit
  pub demo_verdict : (limit : ℕ) → (verdict_on limit p ≡ verdict.Accepted) ⊎ ((stage : ℕ) × (verdict_on limit p ≡ verdict.Limit stage))
  demo_verdict limit =
      let c = demo.made.compiled in
      let same = one_verdict limit p.netlist p c.pipeline demo.shape c.shape in
      elim (sound_verdict limit c.pipeline.stages c.sound) [
        | inl within ↦ inl (same ∙ within.1)
        | inr over ↦ inr (over.1.0, same ∙ over.1.1)
      ]

  -- it takes the bits of both numbers
  pub demo_width : 0 < bits → length p.inputs ≡ 2 * bits
  demo_width some =
      let c = demo.made.compiled in
      let same : length p.inputs ≡ length c.pipeline.inputs = ap length (shape_is_one p.netlist demo.shape.is_netlist p c.pipeline demo.shape c.shape).inputs in
      let pairs : length c.pipeline.inputs ≡ width_of demo.made.models =
      sym (length-map c.pipeline.inputs (names_of_rails p.netlist)) ∙ ap length c.inputs ∙ length-map (range_with_len 1 (width_of demo.made.models)) _ ∙ length-range_with_len 1 (width_of demo.made.models) in
      same ∙ pairs ∙ adder_width bits demo.made.models demo.made.adder some

  -- its run over the words of the demo delivers them all, since no bank holds a word besides
  pub demo_run : (t : TraceData) → (d : DelaysData) → IsUnit d → IsTimedRun p d (demo_words bits) t → t.end ≡ Quiet → DeliversAll p (demo_words bits) t → IsDemoRun bits p t
  demo_run t d unit run quiet delivers = record {
    delays = d;
    unit = unit;
    run = run;
    quiet = quiet;
    whole = omega (arith, delivers.as_many, no_words_held p.netlist p demo.shape demo.made.compiled.no_data);
  }
