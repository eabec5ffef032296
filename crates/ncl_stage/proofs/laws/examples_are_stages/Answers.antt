use Rattle.ncl_stage.proofs.Terms.{IsStage-from_test, adder_stage, and_stage, crossed_stage, dead_rail_stage, eager_and_stage, orphan_and_stage, refl, straight_stage, sum_stage, swapped_stage, unmet_stage}
use Rattle.ncl_stage.proofs.laws.examples_are_stages.Goals as goal

pub returns : goal.returns
returns c = record {
  and_of_two = IsStage-from_test and_stage refl;
  eager_and = IsStage-from_test eager_and_stage refl;
  unobserved_cell = IsStage-from_test orphan_and_stage refl;
  crossed = IsStage-from_test crossed_stage refl;
  dead_rail = IsStage-from_test dead_rail_stage refl;
  adder = IsStage-from_test adder_stage refl;
  sum = IsStage-from_test sum_stage refl;
  swapped = IsStage-from_test swapped_stage refl;
  straight = IsStage-from_test straight_stage refl;
  unmet = IsStage-from_test unmet_stage refl;
}
