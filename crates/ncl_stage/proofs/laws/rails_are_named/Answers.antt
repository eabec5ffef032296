use Rattle.ncl_faults.proofs.ValueLaws.{val-rails}
use Rattle.ncl_stage.proofs.laws.rails_are_named.Goals as goal

pub returns : goal.returns
returns c = λ s word variant is. val-rails s is word variant
