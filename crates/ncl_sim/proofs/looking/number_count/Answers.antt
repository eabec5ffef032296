use Rattle.ncl_sim.proofs.TouchedLaws.{arith, items-few}
use Rattle.ncl_sim.proofs.looking.number_count.Goals as goal

pub overflow_cast-result : goal.overflow_cast-result
overflow_cast-result c =
    let few = items-few c.args.pipeline.now c.inputs-bits.ensures.shape c.inputs-bits.ensures.inputs c.cells-cells.ensures.cells c.netlist.ensures.netlist in
    omega (arith, few.0, few.1)
