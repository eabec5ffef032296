use Rattle.ncl_cells.proofs.Terms.{AgreesAt, word_of, ℕ, ◌<◌}
use Rattle.ncl_cells.proofs.offer.Trying.test_all.Given as goal

abbrev pub invariant-loop-number : goal.invariant-loop-number
invariant-loop-number l = (n : ℕ) → n < l.number → AgreesAt l.self.nodes.now l.self.place l.self.offer.now.leaves l.self.offer.now.node (word_of 4 n)
