use Rattle.ncl_faulty.proofs.Terms.{NoRail, Th22, [], false, gate_stage, judgement-computes, rails, refl, with_dead_rail, ◌∷◌}
use Rattle.ncl_faulty.proofs.Shapes.{dead_rail_shape}
use Rattle.ncl_faulty.proofs.FirstStages.{first_wrong, first_sensitive}
use Rattle.ncl_faulty.proofs.examples.no_rail.Goals as goal

pub returns-clause-shape : goal.returns-clause-shape
returns-clause-shape c = dead_rail_shape

pub returns-clause-refused : goal.returns-clause-refused
returns-clause-refused c = judgement-computes 100 with_dead_rail.stages

pub returns-clause-wrong : goal.returns-clause-wrong
returns-clause-wrong c = first_wrong with_dead_rail dead_rail_shape refl (gate_stage Th22 (rails 10 9)) refl (false ∷ []) refl (NoRail 0) refl

pub returns-clause-not_insensitive : goal.returns-clause-not_insensitive
returns-clause-not_insensitive c = first_sensitive with_dead_rail dead_rail_shape refl (gate_stage Th22 (rails 10 9)) refl (false ∷ []) refl (NoRail 0) refl
