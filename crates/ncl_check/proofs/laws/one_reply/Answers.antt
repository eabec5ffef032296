use Rattle.std.proofs.Common.{false, refl}
use Rattle.ncl_check.proofs.OneReply.{same_reply}
use Rattle.ncl_check.proofs.laws.one_reply.Goals as goal

pub returns-clause-outcome : goal.returns-clause-outcome
returns-clause-outcome c = λ limit why bytes outcome other text line one two. (same_reply limit why bytes one two).0

pub returns-clause-text : goal.returns-clause-text
returns-clause-text c = λ limit bytes outcome other text line one two. (same_reply limit false bytes one two).1 refl
