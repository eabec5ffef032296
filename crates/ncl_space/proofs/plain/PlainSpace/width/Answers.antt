use Rattle.ncl_space.proofs.PlainLaws.{IsPlain-view, IsSpace-plain}
use Rattle.ncl_space.proofs.plain.PlainSpace.width.Goals as goal

pub returns-clause-space : goal.returns-clause-space
returns-clause-space c = IsSpace-plain c.args.self.now (IsPlain-view _ _ _ _ c.args.self.now c.self.invariant c.self.view_is)
