use Rattle.ncl_sim_match.proofs.Terms.{AreRefusedWords, AreWordsOf, AreWordsText, IsRunReply, IsWordsReply, MOST_WORDS, Replies-long, Replies-told, length, long_words, no_reading, reading, subst, sym, ◌≤◌}
use Rattle.ncl_sim_match.proofs.SimReplies.{gives_from}
use Rattle.ncl_sim_match.proofs.WordsRead.{words_fit}
use Rattle.ncl_sim_match.proofs.files.words_reply.Goals as goal

pub returns-in_err-bytes-clause-replies : goal.returns-in_err-bytes-clause-replies
returns-in_err-bytes-clause-replies g c =
    Replies-long _ _ _ (IsWordsReply (g.S.Source.files c.args.source.now) c.args.pipeline.now c.args.delays.now c.args.run.now.words.now c.args.run.now.vcd)
    (λ bytes given many. no_reading _ (record { bytes = bytes; given = given; is = long_words many })) _ c.in_err-bytes.ensures.refused c.from_residual.result c.from_residual.ensures.1

pub returns-in_err-words-clause-replies : goal.returns-in_err-words-clause-replies
returns-in_err-words-clause-replies g c =
    let width = length c.args.pipeline.now.inputs in
    Replies-told (AreRefusedWords width c.deref.result.now) (IsWordsReply (g.S.Source.files c.args.source.now) c.args.pipeline.now c.args.delays.now c.args.run.now.words.now c.args.run.now.vcd)
    (λ text none. no_reading text (record { bytes = c.in_ok-bytes.bytes.items; given = c.in_ok-bytes.ensures.bytes; is = subst (λ b. AreRefusedWords width b text) c.deref.ensures.value none }))
    c.in_err-words.field-0.0 c.in_err-words.ensures.refused c.from_residual-in_err-words.result c.from_residual-in_err-words.ensures.1

pub run_reply-requires-clause-few : goal.run_reply-requires-clause-few
run_reply-requires-clause-few g c =
    subst (λ words. length words ≤ MOST_WORDS) (sym c.deref-2.ensures.value) (words_fit (length c.args.pipeline.now.inputs) c.deref.result.now c.in_ok-words.words.items c.in_ok-words.ensures.words).0

pub run_reply-requires-clause-wide : goal.run_reply-requires-clause-wide
run_reply-requires-clause-wide g c =
    subst (AreWordsOf c.args.pipeline.now) (sym c.deref-2.ensures.value) (words_fit (length c.args.pipeline.now.inputs) c.deref.result.now c.in_ok-words.words.items c.in_ok-words.ensures.words).1

pub returns-clause-replies : goal.returns-clause-replies
returns-clause-replies g c =
    let p = c.args.pipeline.now in
    let d = c.args.delays.now in
    let bytes = c.in_ok-bytes.bytes.items in
    let words = c.in_ok-words.words.items in
    let read : AreWordsText (length p.inputs) bytes words = subst (λ b. AreWordsText (length p.inputs) b words) c.deref.ensures.value c.in_ok-words.ensures.words in
    gives_from (IsRunReply p d c.deref-2.result.now c.args.run.now.vcd) (IsWordsReply (g.S.Source.files c.args.source.now) p d c.args.run.now.words.now c.args.run.now.vcd)
    (λ status text reply. reading words (record { bytes = bytes; given = c.in_ok-bytes.ensures.bytes; is = read }) status text (subst (λ ws. IsRunReply p d ws c.args.run.now.vcd status text) c.deref-2.ensures.value reply))
    c.in_ok-run_reply.field-0 c.in_ok-run_reply.ensures
