use Rattle.ncl_template.proofs.Terms.{FitsWord, length, node_function, take, waits_at, word_of, ℕ, ◌<◌}
use Rattle.ncl_template.proofs.fitting.fits.Given as goal

abbrev pub invariant-loop-number : goal.invariant-loop-number
invariant-loop-number l = (n : ℕ) → n < l.number → FitsWord (node_function l.node) (waits_at l.waits) l.form (take (length l.node.ins) (word_of 4 n))
