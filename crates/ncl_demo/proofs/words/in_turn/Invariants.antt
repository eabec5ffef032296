use Rattle.ncl_demo.proofs.Terms.{in_turn, length, ◌*◌, ◌≡◌}
use Rattle.ncl_demo.proofs.words.in_turn.Given as goal

abbrev pub invariant-loop-place : goal.invariant-loop-place
invariant-loop-place l = record {
  bits : l.word ≡ in_turn l.place l.a l.b;
  many : length l.word ≡ 2 * l.place;
}
