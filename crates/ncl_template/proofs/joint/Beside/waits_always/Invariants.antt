use Rattle.ncl_template.proofs.Terms.{WaitsJointly, take, waits_once, word_of, ℕ, ◌<◌}
use Rattle.ncl_template.proofs.joint.Beside.waits_always.Given as goal

abbrev pub invariant-loop-number : goal.invariant-loop-number
invariant-loop-number l =
    (n : ℕ) → n < l.number → WaitsJointly l.self.last.now.zero l.self.last.now.one (waits_once l.self.waits) l.self.gate.now (take 3 (word_of 4 n))
