use Rattle.ncl_stage.proofs.Terms.{IsShown, false, get_or, length, take, true, ℕ, ◌≡◌}
use Rattle.ncl_stage.proofs.observing.output_marks.Given as goal

-- what is marked is a rail of the outputs so far
abbrev pub invariant-loop-pair : goal.invariant-loop-pair
invariant-loop-pair l = record {
  many : length l.marks.items ≡ l.count;
  shown : (place : ℕ) → get_or l.marks.items place false ≡ true → IsShown (take l.pair-index l.wiring.outputs) place;
}
