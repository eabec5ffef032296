use Rattle.ncl_stage.proofs.OrderExamples.{adder-order, swapped-order, unmet-order}
use Rattle.ncl_stage.proofs.laws.example_orders.Goals as goal

pub returns : goal.returns
returns c = record { adder = adder-order; swapped = swapped-order; unmet = unmet-order }
