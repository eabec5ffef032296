use Rattle.ncl_match.proofs.StepLaws.{ModelsLoop}
use Rattle.ncl_match.proofs.steps.OrderedModels.of.Given as goal

-- the models so far have their steps
abbrev pub invariant-loop-model : goal.invariant-loop-model
invariant-loop-model l = ModelsLoop l.inputs l.models l.steps.items l.outputs.items l.model-index
