-- The bytes of a file determine the status of what `compile` replies to it.
use Rattle.ncl_top.proofs.Terms.{All-contains, AreModelsText, AreRefusedModels, Bool, CanBeCompiled, CompileFault, Contains-from_slice_get, Files, IsCompileFault, IsCompiledFile, IsModelsReply, IsReadReply-alike, IsSlim, List, Model, Some, TooLong, TooMany, TooWide, arith, compiled, refl, subst, too_large, ℕ, ◌≡◌, ◌≢◌}
use Rattle.ncl_compile.specs.declared.fault.CompileFault.TheVariants.{Memory}
use Rattle.ncl_sim_match.proofs.ModelsText.{one_models, refused_models_none}

-- models that can be compiled have no fault but want of memory
no_fault : (models : List Model) → CanBeCompiled models → (fault : CompileFault) → fault ≢ Memory → IsCompileFault models fault → ⊥
no_fault models can (TooWide number) named fault =
    fault.wide.2 (All-contains IsSlim models fault.wide.0 can.slim (Contains-from_slice_get models fault.before fault.wide.0 fault.wide.1))
no_fault models can TooLong named fault = absurd (omega (arith, can.few, fault.1))
no_fault models can TooMany named fault = absurd (omega (arith, can.small, fault.2))
no_fault models can Memory named fault = named refl

models_status : (models : List Model) (merge : Bool) {status other : ℕ} {text line : List ℕ} → IsModelsReply models merge status text → IsModelsReply models merge other line → status ≡ other
models_status models merge (too_large fault named is) (too_large fault' named' is') = refl
models_status models merge (too_large fault named is) (compiled can n of text written) = absurd (no_fault models can fault named is)
models_status models merge (compiled can n of text written) (too_large fault named is) = absurd (no_fault models can fault named is)
models_status models merge (compiled can n of text written) (compiled can' n' of' text' written') = refl

-- whatever is replied to a file, its status is the same
pub same_compile_status : (files : Files) (file : List ℕ) (merge : Bool) {status other : ℕ} {text line : List ℕ} → IsCompiledFile (Some files) file merge status text → IsCompiledFile (Some files) file merge other line → status ≡ other
same_compile_status files file merge =
    IsReadReply-alike AreRefusedModels AreModelsText (λ models. IsModelsReply models merge) (λ status other text line. status ≡ other) (λ models. IsModelsReply models merge)
    (λ bytes text line none none'. refl) (λ bytes text models none said. refused_models_none bytes models none said)
    (λ bytes models models' said said' status other text line reply reply'.
    let same : models ≡ models' = one_models bytes models models' said said' in
    models_status models' merge (subst (λ ms. IsModelsReply ms merge status text) same reply) reply')
    files file
