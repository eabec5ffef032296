-- The function of a stage, and of stages one after another.
use Rattle.std.specs.Prelude.{Bool, List, [], ◌∷◌, map}
use Rattle.ncl_shape.specs.declared.rails.Rails.{Rails}
use Rattle.ncl_shape.specs.Stage.{StageData}
use Rattle.ncl_faults.specs.declared.variant.Variant.TheVariants.{Base}
use Rattle.ncl_faults.specs.Values.{val}

-- the word that a stage makes of a word: its bit j is the value of rail 1 of output j
abbrev pub stage_function : StageData → List Bool → List Bool
stage_function s word = map (λ (r : Rails). val s word Base r.one.0) s.outputs

-- the word that stages make of a word, each of what the one before it makes
abbrev pub composed : List StageData → List Bool → List Bool
composed [] word = word
composed (s ∷ stages) word = composed stages (stage_function s word)
