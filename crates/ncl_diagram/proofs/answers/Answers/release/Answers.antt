use Rattle.std.proofs.Common.{◌+◌}
use Rattle.ncl_diagram.proofs.KeptLaws.{left_none}
use Rattle.ncl_diagram.proofs.answers.Answers.release.Goals as goal

pub returns-else-gone-lt-MANY_NODES : goal.returns-else-gone-lt-MANY_NODES
returns-else-gone-lt-MANY_NODES c = left_none (c.args.count + 2) c.args.self.now c.forget.new.self c.forget.ensures
