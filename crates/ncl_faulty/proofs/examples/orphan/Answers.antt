use Rattle.ncl_faulty.proofs.Terms.{Orphan, Th12, [], false, gate_stage, judgement-computes, rails, refl, with_orphan, ◌∷◌}
use Rattle.ncl_faulty.proofs.Shapes.{orphan_shape}
use Rattle.ncl_faulty.proofs.FirstStages.{first_wrong, first_sensitive}
use Rattle.ncl_faulty.proofs.examples.orphan.Goals as goal

pub returns-clause-shape : goal.returns-clause-shape
returns-clause-shape c = orphan_shape

pub returns-clause-refused : goal.returns-clause-refused
returns-clause-refused c = judgement-computes 100 with_orphan.stages

pub returns-clause-wrong : goal.returns-clause-wrong
returns-clause-wrong c = first_wrong with_orphan orphan_shape refl (gate_stage Th12 (rails 8 9)) refl (false ∷ []) refl (Orphan 0) refl

pub returns-clause-not_insensitive : goal.returns-clause-not_insensitive
returns-clause-not_insensitive c = first_sensitive with_orphan orphan_shape refl (gate_stage Th12 (rails 8 9)) refl (false ∷ []) refl (Orphan 0) refl
