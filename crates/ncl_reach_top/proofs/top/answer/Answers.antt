use Rattle.ncl_reach_top.proofs.Terms.{Asks, Err, IsReachedFile, Refuses, ap, command_of, map, no_memory, not_understood, read_failed, replied, subst, sym, ◌∙◌}
use Rattle.ncl_reach_top.proofs.Ends.{says_reached}
use Rattle.ncl_reach_top.proofs.top.answer.Goals as goal

pub returns-in_default-clause-says : goal.returns-in_default-clause-says
returns-in_default-clause-says g c = no_memory

pub returns-in-Err-clause-says : goal.returns-in-Err-clause-says
returns-in-Err-clause-says g c = no_memory

pub returns-in_default-asked-clause-says : goal.returns-in_default-asked-clause-says
returns-in_default-asked-clause-says g c =
    not_understood (λ file limit asks.
    c.in_default-asked.ensures.none file limit
    (c.in-Ok-parse.ensures.command ∙ ap (λ words. command_of (map (λ word. word.now) words)) c.as_slice.ensures.value ∙ ap command_of c.in-Ok.ensures ∙ asks))

pub returns-in-Ok-file_reply-clause-says : goal.returns-in-Ok-file_reply-clause-says
returns-in-Ok-file_reply-clause-says g c =
    let read = ap (λ words. command_of (map (λ word. word.now) words)) c.as_slice.ensures.value ∙ ap command_of c.in-Ok.ensures in
    let asks : Asks (map (λ argument. argument.now) c.args.arguments.now) c.in-Some.file.now c.in-Some.limit = sym read ∙ sym c.in-Ok-parse.ensures.command ∙ c.in-Some.ensures.some in
    says_reached _ _ _ c.in-Some.file.now c.in-Some.limit c.in-Ok-file_reply.reply asks c.in-Ok-file_reply.ensures.replies

pub returns-in-Err-Refused-clause-says : goal.returns-in-Err-Refused-clause-says
returns-in-Err-Refused-clause-says g c =
    let read = ap (λ words. command_of (map (λ word. word.now) words)) c.as_slice.ensures.value ∙ ap command_of c.in-Ok.ensures in
    let asks : Asks (map (λ argument. argument.now) c.args.arguments.now) c.in-Some.file.now c.in-Some.limit = sym read ∙ sym c.in-Ok-parse.ensures.command ∙ c.in-Some.ensures.some in
    let relation = IsReachedFile (g.S.Source.files c.args.source.now) c.in-Some.file.now c.in-Some.limit in
    replied c.in-Some.file.now c.in-Some.limit asks 3 c.in-Err-Refused.line.items (subst (Refuses (relation 3)) c.in-Err-Refused.field-0-is c.in-Err-Refused.ensures.replies)

pub returns-in-Err-Read-clause-says : goal.returns-in-Err-Read-clause-says
returns-in-Err-Read-clause-says g c =
    let read = ap (λ words. command_of (map (λ word. word.now) words)) c.as_slice.ensures.value ∙ ap command_of c.in-Ok.ensures in
    let asks : Asks (map (λ argument. argument.now) c.args.arguments.now) c.in-Some.file.now c.in-Some.limit = sym read ∙ sym c.in-Ok-parse.ensures.command ∙ c.in-Some.ensures.some in
    read_failed c.in-Some.file.now c.in-Some.limit asks (c.in-Err-Read.ensures.read (ap Err c.in-Err-Read.field-0-is))

pub returns-clause-says : goal.returns-clause-says
returns-clause-says g c = no_memory
