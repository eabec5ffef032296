use Rattle.ncl_demo.proofs.Terms.{All, demo_word, length, map, range_with_len, ◌*◌, ◌≡◌}
use Rattle.ncl_demo.proofs.words.demo_words.Given as goal

abbrev pub invariant-loop-place : goal.invariant-loop-place
invariant-loop-place l = record {
  words : l.words.items ≡ map (demo_word l.bits) (range_with_len 0 l.place);
  wide : All (λ word. length word ≡ 2 * l.bits) l.words.items;
}
