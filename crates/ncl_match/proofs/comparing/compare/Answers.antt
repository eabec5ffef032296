use Rattle.ncl_match.proofs.Terms.{IsLayoutOf, IsRunAnswer, Layout, List, MOST_BITS, Model, PipelineData, Rails, RunAnswer, Shape, ap, arith, circuit_of, laid_out_of, length, subst, subst₂, ℕ, ◌≡◌, ◌≤◌}
use Rattle.ncl_match.specs.declared.answer.RunAnswer.TheVariants as run
use Rattle.ncl_match.proofs.comparing.compare.Goals as goal

-- there are as many outputs as a word may have bits
few_outputs : (p : PipelineData) → Shape p.netlist p → length p.outputs ≤ MOST_BITS
few_outputs p shape = by (laid_out_of p.netlist p shape)
  where
    by : (l : Layout) × IsLayoutOf p l → length p.outputs ≤ MOST_BITS
    by (l, is) = subst (λ (bits : List Rails). length bits ≤ MOST_BITS) is.sink (is.is_stage l.last (omega arith)).few_outputs

pub overflow_cast-outputs : goal.overflow_cast-outputs
overflow_cast-outputs g c =
    let few = few_outputs c.args.pipeline.now c.facts.ensures in
    let many : length c.outputs.result.now ≡ length c.args.pipeline.now.outputs = ap length c.outputs.ensures.outputs in
    record { fits = omega (arith, few, many) }

-- the answer to all outputs of the sides is that to those of the pipeline and the models
answer-of : (p q : PipelineData) (models own : List Model) (limit : ℕ) (outputs : List Rails) (answer : RunAnswer) → q ≡ p → own ≡ models → outputs ≡ p.outputs → IsRunAnswer (circuit_of q) own limit 0 (length outputs) answer
    → IsRunAnswer (circuit_of p) models limit 0 (length p.outputs) answer
answer-of p q models own limit outputs answer same same_models same_outputs is =
    subst (λ (bits : List Rails). IsRunAnswer (circuit_of p) models limit 0 (length bits) answer) same_outputs
    (subst₂ (λ (r : PipelineData) (ms : List Model). IsRunAnswer (circuit_of r) ms limit 0 (length outputs) answer) same same_models is)

pub returns-in-Ok-Same : goal.returns-in-Ok-Same
returns-in-Ok-Same g c = (
  c.have_widths.ensures.yes c.if-not-have_widths.false,
  answer-of c.args.pipeline.now c.in-Ok.sides.pipeline c.args.models.now c.in-Ok.sides.models c.args.limit c.outputs.result.now run.Same c.in-Ok.ensures.pipeline c.in-Ok.ensures.models c.outputs.ensures.outputs
      (subst (IsRunAnswer (circuit_of c.in-Ok.sides.pipeline) c.in-Ok.sides.models c.args.limit 0 (length c.outputs.result.now)) c.in-Ok-Same.field-0-is c.in-Ok-Same.ensures),
)

pub returns-in-Ok-Differ : goal.returns-in-Ok-Differ
returns-in-Ok-Differ g c = (
  c.have_widths.ensures.yes c.if-not-have_widths.false,
  answer-of c.args.pipeline.now c.in-Ok.sides.pipeline c.args.models.now c.in-Ok.sides.models c.args.limit c.outputs.result.now (run.Differ c.in-Ok-Differ.word c.in-Ok-Differ.output) c.in-Ok.ensures.pipeline c.in-Ok.ensures.models c.outputs.ensures.outputs
      (subst (IsRunAnswer (circuit_of c.in-Ok.sides.pipeline) c.in-Ok.sides.models c.args.limit 0 (length c.outputs.result.now)) c.in-Ok-Differ.field-0-is c.in-Ok-Differ.ensures),
)
