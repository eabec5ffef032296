use Rattle.ncl_sim_match.proofs.Terms.{AreRefusedWords, MOST_BITS, TellsLine-weaker, ap, length, subst, sym, ◌≤◌}
use Rattle.ncl_sim_match.proofs.SimReplies.{inputs_some, words_refused}
use Rattle.ncl_sim_match.proofs.reading.words_in.Goals as goal

pub read_words-requires-clause-some : goal.read_words-requires-clause-some
read_words-requires-clause-some c = subst (λ xs. 1 ≤ length xs) (sym c.inputs.ensures.inputs) (inputs_some c.args.pipeline.now c.facts.ensures).0

pub read_words-requires-clause-few : goal.read_words-requires-clause-few
read_words-requires-clause-few c = subst (λ xs. length xs ≤ MOST_BITS) (sym c.inputs.ensures.inputs) (inputs_some c.args.pipeline.now c.facts.ensures).1

pub returns-in-Err-clause-refused : goal.returns-in-Err-clause-refused
returns-in-Err-clause-refused c =
    TellsLine-weaker _ (AreRefusedWords (length c.args.pipeline.now.inputs) c.args.bytes.now)
    (words_refused _ _ c.args.bytes.now (ap length c.inputs.ensures.inputs) c.requires c.in-Err.fault c.in-Err.ensures.broken)
    c.no_words.result c.no_words.ensures
