use Rattle.ncl_reader.proofs.Kept.{rules, standing-none}
use Rattle.ncl_reader.proofs.kept_bits.KeptBits.new.Goals as goal

pub returns : goal.returns
returns c = standing-none _ (λ v. search rules)
