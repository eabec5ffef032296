use Rattle.ncl_template.proofs.Terms.{behind_bit, false, length, true, waits_at, ℕ, ◌<◌, ◌≡◌}
use Rattle.ncl_template.proofs.form.Behind.waits.Given as goal

abbrev pub invariant-loop-null : goal.invariant-loop-null
invariant-loop-null l = (j : ℕ) → j < l.null → waits_at l.waits l.self.word.now j ≡ true → behind_bit l.self.word.now j (length l.self.inner.now) l.self.inner.now l.self.gate.now ≡ false
