use Rattle.ncl_insensitivity.proofs.Headline.{delay_insensitive, run_bound, safe}
use Rattle.ncl_insensitivity.proofs.laws.sound_is_insensitive.Goals as goal

pub returns : goal.returns
returns c = record { safe = safe; insensitive = delay_insensitive; bound = run_bound }
