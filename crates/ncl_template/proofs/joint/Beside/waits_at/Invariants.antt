use Rattle.ncl_template.proofs.Terms.{false, joint_bit, true, waits_once, ℕ, ◌<◌, ◌≡◌}
use Rattle.ncl_template.proofs.joint.Beside.waits_at.Given as goal

abbrev pub invariant-loop-null : goal.invariant-loop-null
invariant-loop-null l = (j : ℕ) → j < l.null → waits_once l.self.waits j ≡ true → joint_bit l.self.last.now.zero l.self.last.now.one l.word j l.self.gate.now ≡ false
