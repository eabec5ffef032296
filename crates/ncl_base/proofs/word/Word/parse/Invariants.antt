use Rattle.ncl_base.proofs.Terms.{All, take, text_of, ◌≡◌, ◌⊎◌}
use Rattle.ncl_base.proofs.word.Word.parse.Given as goal

-- the word is that of the characters so far, which are binary
abbrev pub invariant-loop-byte : goal.invariant-loop-byte
invariant-loop-byte l = record {
  said : text_of l.word ≡ take l.byte-index l.text;
  binary : All (λ c. (c ≡ 48) ⊎ (c ≡ 49)) (take l.byte-index l.text);
}
