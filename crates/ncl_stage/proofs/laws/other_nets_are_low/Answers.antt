use Rattle.ncl_faults.proofs.ValueLaws.{val-elsewhere}
use Rattle.ncl_stage.proofs.laws.other_nets_are_low.Goals as goal

pub returns : goal.returns
returns c = val-elsewhere
