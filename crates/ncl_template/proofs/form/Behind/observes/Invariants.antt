use Rattle.ncl_template.proofs.Terms.{behind_bit, false, get_or, length, true, ℕ, ◌<◌, ◌≡◌}
use Rattle.ncl_template.proofs.form.Behind.observes.Given as goal

abbrev pub invariant-loop-low : goal.invariant-loop-low
invariant-loop-low l = (j : ℕ) → j < l.low → get_or l.high j false ≡ true → behind_bit l.self.word.now (length l.self.word.now) j l.self.inner.now l.self.gate.now ≡ false
