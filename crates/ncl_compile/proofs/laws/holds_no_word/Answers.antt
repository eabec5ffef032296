use Rattle.ncl_compile.proofs.NoWordsHeld.{no_words_held}
use Rattle.ncl_compile.proofs.laws.holds_no_word.Goals as goal

pub returns : goal.returns
returns c = λ models n p compiled shape. no_words_held n p shape compiled.no_data
