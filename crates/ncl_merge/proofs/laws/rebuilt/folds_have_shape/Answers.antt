use Rattle.ncl_merge.proofs.ChoiceShape.{shape-folded}
use Rattle.ncl_merge.proofs.laws.rebuilt.folds_have_shape.Goals as goal

pub returns : goal.returns
returns c = λ p lists shape fewer is_m. shape-folded p shape lists fewer is_m
