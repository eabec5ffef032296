use Rattle.std.proofs.Common.{length, arith}
use Rattle.ncl_compile.proofs.BankWidths.{width_bounds}
use Rattle.ncl_compile.proofs.putting.put_together.Goals as goal

pub ports_of-requires-clause-few_inputs : goal.ports_of-requires-clause-few_inputs
ports_of-requires-clause-few_inputs c =
    let bounds = width_bounds c.args.models.now c.requires.are_models c.requires.small 0 (omega arith) in
    omega (arith, bounds.1, c.width_at-inputs.ensures)

pub ports_of-requires-clause-few_outputs : goal.ports_of-requires-clause-few_outputs
ports_of-requires-clause-few_outputs c =
    let bounds = width_bounds c.args.models.now c.requires.are_models c.requires.small (length c.args.models.now) (omega arith) in
    omega (arith, bounds.1, c.width_at-outputs.ensures)
