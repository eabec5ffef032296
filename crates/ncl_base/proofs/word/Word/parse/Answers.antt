use Rattle.ncl_base.proofs.Terms.{All, All-push, Bool, List, [], ap, character_of, false, get_or, inl, inr, length, map_push, subst, sym, take, take_more, text_of, true, ℕ, ◌++◌, ◌+◌, ◌<◌, ◌∙◌, ◌∷◌, ◌≡◌, ◌⊎◌}
use Rattle.ncl_base.proofs.word.Word.parse.Goals.{in-48, in-49}
use Rattle.ncl_base.proofs.word.Word.parse.Goals as goal

-- one more character of the text, and the bit that it writes
one_more : (text : List ℕ) (i : ℕ) (word : List Bool) (bit : Bool) → i < length text → text_of word ≡ take i text → get_or text i 0 ≡ character_of bit → text_of (word ++ bit ∷ []) ≡ take (i + 1) text
one_more text i word bit h e k =
    map_push character_of word bit ∙ ap (λ t. t ++ character_of bit ∷ []) e ∙ ap (λ c. take i text ++ c ∷ []) (sym k) ∙ sym (take_more text i 0 h)

binary_more : (text : List ℕ) (i : ℕ) → i < length text → All (λ c. (c ≡ 48) ⊎ (c ≡ 49)) (take i text) → (get_or text i 0 ≡ 48) ⊎ (get_or text i 0 ≡ 49) → All (λ c. (c ≡ 48) ⊎ (c ≡ 49)) (take (i + 1) text)
binary_more text i h a b = subst (All (λ c. (c ≡ 48) ⊎ (c ≡ 49))) (sym (take_more text i 0 h)) (All-push (λ c. (c ≡ 48) ⊎ (c ≡ 49)) (take i text) (get_or text i 0) a b)

pub loop-byte-preserved : goal.loop-byte-preserved
loop-byte-preserved c =
    let text = c.args.text.now in
    let i = c.loop-byte.byte-index in
    let said = c.loop-byte.invariant.said in
    let binary = c.loop-byte.invariant.binary in
    elim c.match-byte.branch [
      | in-48 w ↦ record {
        said = ap text_of (w.word-is ∙ w.push.ensures) ∙ one_more text i c.loop-byte.word false c.loop-byte-test.true said w.in-48.is;
        binary = binary_more text i c.loop-byte-test.true binary (inl w.in-48.is);
      }
      | in-49 w ↦ record {
        said = ap text_of (w.word-is ∙ w.push-in-49.ensures) ∙ one_more text i c.loop-byte.word true c.loop-byte-test.true said w.in-49.is;
        binary = binary_more text i c.loop-byte-test.true binary (inr w.in-49.is);
      }
    ]
