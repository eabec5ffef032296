-- The values of a stage at a word, in a table of nets.
use Rattle.std.specs.Prelude.{Bool, false, List, map, slice_index_or}
use Rattle.ncl_shape.specs.declared.rails.Rails.{Rails}
use Rattle.ncl_shape.specs.Nets.{Nets}
use Rattle.ncl_shape.specs.Stage.{StageData}
use Rattle.ncl_faults.specs.declared.variant.Variant.TheVariants.{Base}
use Rattle.ncl_faults.specs.Values.{val}

-- the values that a table has; a net past its end is low
abbrev pub value_in : List Bool → Nets
value_in values net = slice_index_or values net false

-- no net is kept low
abbrev pub none_low : Nets
none_low net = false

-- the word on some rails at a word of a stage: for each bit the value of its rail 1
abbrev pub word_on : StageData → List Bool → List Rails → List Bool
word_on s word rails = map (λ (r : Rails). val s word Base r.one.0) rails
