use Rattle.ncl_faulty.proofs.Terms.{BothRails, Th12, [], gate_stage, judgement-computes, rails, refl, true, with_both_rails, ◌∷◌}
use Rattle.ncl_faulty.proofs.Shapes.{both_rails_shape}
use Rattle.ncl_faulty.proofs.FirstStages.{first_wrong, first_sensitive}
use Rattle.ncl_faulty.proofs.examples.both_rails.Goals as goal

pub returns-clause-shape : goal.returns-clause-shape
returns-clause-shape c = both_rails_shape

pub returns-clause-refused : goal.returns-clause-refused
returns-clause-refused c = judgement-computes 100 with_both_rails.stages

pub returns-clause-wrong : goal.returns-clause-wrong
returns-clause-wrong c = first_wrong with_both_rails both_rails_shape refl (gate_stage Th12 (rails 10 9)) refl (true ∷ []) refl (BothRails 0) refl

pub returns-clause-not_insensitive : goal.returns-clause-not_insensitive
returns-clause-not_insensitive c = first_sensitive with_both_rails both_rails_shape refl (gate_stage Th12 (rails 10 9)) refl (true ∷ []) refl (BothRails 0) refl
