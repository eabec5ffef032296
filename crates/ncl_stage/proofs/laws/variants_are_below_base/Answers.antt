use Rattle.ncl_faults.proofs.ValueLaws.{val-below_base}
use Rattle.ncl_stage.proofs.laws.variants_are_below_base.Goals as goal

pub returns : goal.returns
returns c = val-below_base
