use Rattle.ncl_top.proofs.Terms.{Err, IsReply, Refuses, answered, ap, command_meant, no_memory, not_understood, read_failed, replied, rules, subst}
use Rattle.ncl_top.proofs.Saying.{says_reply}
use Rattle.ncl_top.proofs.top.answer.Goals as goal

pub returns-in-Err-clause-says : goal.returns-in-Err-clause-says
returns-in-Err-clause-says g c = no_memory

pub returns-in-Ok-None-clause-says : goal.returns-in-Ok-None-clause-says
returns-in-Ok-None-clause-says g c = answered 2 _ (not_understood (search rules))

pub returns-in-Ok-clause-says : goal.returns-in-Ok-clause-says
returns-in-Ok-clause-says g c = says_reply _ _ _ _ c.in-Ok.reply (search rules) c.in-Ok.ensures.replies

pub returns-in-Err-Refused-clause-says : goal.returns-in-Err-Refused-clause-says
returns-in-Err-Refused-clause-says g c =
    let command = command_meant c.in-Ok-Some.command in
    let relation = IsReply command (g.S.Source.files c.args.source.now) in
    answered 3 _ (replied command (search rules) 3 c.in-Err-Refused.line.items (subst (Refuses (relation 3)) c.in-Err-Refused.field-0-is c.in-Err-Refused.ensures.replies))

pub returns-in-Err-Read-clause-says : goal.returns-in-Err-Read-clause-says
returns-in-Err-Read-clause-says g c =
    let was = ap Err c.in-Err-Read.field-0-is in
    read_failed _ (search rules) (c.in-Err-Read.ensures.read_named was) (c.in-Err-Read.ensures.read was)

pub returns-in-Err-Memory-clause-says : goal.returns-in-Err-Memory-clause-says
returns-in-Err-Memory-clause-says g c = no_memory
