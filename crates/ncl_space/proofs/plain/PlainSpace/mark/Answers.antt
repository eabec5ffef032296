use Rattle.std.proofs.Common.{sym}
use Rattle.ncl_space.proofs.PlainLaws.{IsPlain-view, IsSpace-plain, MarksNow-plain, length-view}
use Rattle.ncl_space.proofs.plain.PlainSpace.mark.Goals as goal

pub returns-clause-mark : goal.returns-clause-mark
returns-clause-mark c = MarksNow-plain c.args.self.now _ (sym (length-view c.self.inside.width c.self.inside.count c.self.inside.words.items c.args.self.now c.self.view_is))

pub returns-clause-space : goal.returns-clause-space
returns-clause-space c = IsSpace-plain c.args.self.now (IsPlain-view _ _ _ _ c.args.self.now c.self.invariant c.self.view_is)
