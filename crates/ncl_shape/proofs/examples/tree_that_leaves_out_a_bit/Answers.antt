use Rattle.ncl_shape.proofs.ExampleTrees.{k2_is_first_loose}
use Rattle.ncl_shape.proofs.examples.tree_that_leaves_out_a_bit.Goals as goal

pub returns : goal.returns
returns c = k2_is_first_loose
