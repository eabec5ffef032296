-- Plans: operations one after another, on bits or on the results of earlier ones.
use Rattle.std.specs.Prelude.{List, [], ◌∷◌, ◌++◌, Bool, false, not, cond}
use Rattle.std.specs.List.{slice_index_or}
use Rattle.ncl_plans.specs.declared.plan.Arg.{Arg}
use Rattle.ncl_plans.specs.declared.plan.Step.{Step}
use Rattle.ncl_plans.specs.declared.plan.Plan.{Plan}
use Rattle.ncl_plans.specs.Smalls.{op_value}

-- the bit of an argument: the one at its place, or 0 where none is, or the inverse of that
abbrev pub arg_value : List Bool → Arg → Bool
arg_value bits arg = cond arg.inverted (not (slice_index_or bits arg.place false)) (slice_index_or bits arg.place false)

-- the bit of a step
abbrev pub step_value : List Bool → Step → Bool
step_value bits step = op_value step.op (arg_value bits step.first) (arg_value bits step.second) (arg_value bits step.third)

-- the bits and those of the steps after them
abbrev pub step_values : List Bool → List Step → List Bool
step_values bits [] = bits
step_values bits (step ∷ rest) = step_values (bits ++ step_value bits step ∷ []) rest

-- the bit of a plan
abbrev pub plan_value : Plan → List Bool → Bool
plan_value plan bits = arg_value (step_values bits plan.steps.items) plan.out
