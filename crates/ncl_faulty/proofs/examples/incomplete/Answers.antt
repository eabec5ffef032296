use Rattle.ncl_faulty.proofs.Terms.{Incomplete, [], eager_stage, false, judgement-computes, refl, with_eager_and, ◌∷◌}
use Rattle.ncl_faulty.proofs.Shapes.{eager_and_shape}
use Rattle.ncl_faulty.proofs.FirstStages.{first_wrong, first_sensitive}
use Rattle.ncl_faulty.proofs.examples.incomplete.Goals as goal

pub returns-clause-shape : goal.returns-clause-shape
returns-clause-shape c = eager_and_shape

pub returns-clause-refused : goal.returns-clause-refused
returns-clause-refused c = judgement-computes 100 with_eager_and.stages

pub returns-clause-wrong : goal.returns-clause-wrong
returns-clause-wrong c = first_wrong with_eager_and eager_and_shape refl eager_stage refl (false ∷ false ∷ []) refl (Incomplete 0) refl

pub returns-clause-not_insensitive : goal.returns-clause-not_insensitive
returns-clause-not_insensitive c = first_sensitive with_eager_and eager_and_shape refl eager_stage refl (false ∷ false ∷ []) refl (Incomplete 0) refl
