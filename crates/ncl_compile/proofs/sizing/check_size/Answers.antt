use Rattle.ncl_compile.proofs.Terms.{IsSlim, Some, ap, arith, cases_lt, inl, inr, length, refl, slice_get, slice_get_read, subst, sym, ◌∙◌, ◌≡◌}
use Rattle.ncl_compile.proofs.SizeLaws.{few_models, all_slim}
use Rattle.ncl_compile.proofs.sizing.check_size.Goals as goal

pub overflow_cast-result : goal.overflow_cast-result
overflow_cast-result c = let few = few_models c.args.models.now c.requires in omega (arith, few)

pub overflow_add-result : goal.overflow_add-result
overflow_add-result c = let few = few_models c.args.models.now c.requires in omega (arith, few)

pub returns-then-not-is_slim-clause-fault : goal.returns-then-not-is_slim-clause-fault
returns-then-not-is_slim-clause-fault c =
    let models = c.args.models.now in
    record {
      before = c.loop-before.before;
      is = refl;
      wide = (
        c.index-models-before.result,
        slice_get_read models (length models) c.loop-before.before c.index-models-before.result refl (omega arith) c.index-models-before.is,
        λ slim. let yes = c.is_slim.ensures.1 slim in let no = c.if-not-is_slim.true in absurd cc,
      );
      slim_before = c.loop-before.invariant;
    }

pub loop-before-preserved : goal.loop-before-preserved
loop-before-preserved c k model lt at =
    elim (cases_lt k c.loop-before.before) [
      | inl less ↦ c.loop-before.invariant k model less at
      | inr most ↦
          let models = c.args.models.now in
          let here : k ≡ c.loop-before.before = omega arith in
          let read = slice_get_read models (length models) c.loop-before.before c.index-models-before.result refl (omega arith) c.index-models-before.is in
          let both : Some model ≡ Some c.index-models-before.result = sym at ∙ ap (slice_get models) here ∙ read in
          let same : c.index-models-before.result ≡ model = cc in
          let slim : IsSlim c.index-models-before.result = c.is_slim.ensures.0 c.if-not-is_slim.false in
          subst IsSlim same slim
    ]

pub returns-then-models-gt-MOST_MODELS-clause-fault : goal.returns-then-models-gt-MOST_MODELS-clause-fault
returns-then-models-gt-MOST_MODELS-clause-fault c = (all_slim c.args.models.now c.loop-before.before (omega arith) c.loop-before.invariant, omega arith)

pub returns-then-total_size-gt-MOST_UNITS-clause-fault : goal.returns-then-total_size-gt-MOST_UNITS-clause-fault
returns-then-total_size-gt-MOST_UNITS-clause-fault c = (all_slim c.args.models.now c.loop-before.before (omega arith) c.loop-before.invariant, omega arith, omega arith)

pub returns-clause-small : goal.returns-clause-small
returns-clause-small c = record {
  slim = all_slim c.args.models.now c.loop-before.before (omega arith) c.loop-before.invariant;
  few = omega arith;
  small = omega arith;
}
