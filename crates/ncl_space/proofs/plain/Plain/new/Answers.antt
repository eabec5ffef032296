use Rattle.ncl_space.proofs.PlainLaws.{IsPlain-none, IsSpace-plain}
use Rattle.ncl_space.proofs.plain.Plain.new.Goals as goal

pub returns-clause-space : goal.returns-clause-space
returns-clause-space c = IsSpace-plain _ (IsPlain-none c.args.width c.requires.some c.requires.few)
