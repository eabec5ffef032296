use Rattle.ncl_machine.proofs.Terms.{Bool, List, [], ap, get_or, length, same_from_all_zip, sym, take, take_more, ℕ, ◌++◌, ◌+◌, ◌<◌, ◌∙◌, ◌∷◌, ◌≡◌}
use Rattle.ncl_machine.proofs.state.copied.Goals as goal

-- one word more
one_more : (words copy new : List (List Bool)) (k : ℕ) (word item : List Bool) → k < length words → new ≡ copy ++ word ∷ [] → copy ≡ take k words
    → word ≡ item → item ≡ get_or words k item → new ≡ take (k + 1) words
one_more words copy new k word item lt pushed so_far same is =
    pushed ∙ ap (λ front. front ++ word ∷ []) so_far ∙ ap (λ one. take k words ++ one ∷ []) (same ∙ is) ∙ sym (take_more words k item lt)

-- a clone of a word has its bits
pub loop-word-preserved : goal.loop-word-preserved
loop-word-preserved c =
    let (from, to, from_is, to_is, clones) = c.in_ok-clone.ensures.cases in
    let same : c.in_ok-clone.field-0 ≡ c.word-item.result = sym to_is ∙ same_from_all_zip _ _ _ clones (λ x y r. r) ∙ from_is in
    one_more c.args.words.now c.loop-word.copy.items c.push.new.self.items c.loop-word.word-index c.in_ok-clone.field-0 c.word-item.result c.loop-word-test.true
    c.in_ok-push.ensures.items c.loop-word.invariant same c.word-item.is
