use Rattle.ncl_space.proofs.Terms.{take, word_of, ◌≡◌}
use Rattle.ncl_space.proofs.plain.numbered_word.Given as goal

abbrev pub invariant-loop-place : goal.invariant-loop-place
invariant-loop-place l = l.word ≡ take l.place (word_of l.fn.width l.fn.number)
