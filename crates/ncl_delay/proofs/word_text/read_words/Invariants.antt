use Rattle.ncl_delay.proofs.Told.{told_of}
use Rattle.ncl_delay.proofs.WordLines.{AreWords}
use Rattle.ncl_delay.proofs.word_text.read_words.Given as goal

abbrev pub invariant-loop-place : goal.invariant-loop-place
invariant-loop-place l = AreWords l.width (told_of l.yielded) l.words.items
