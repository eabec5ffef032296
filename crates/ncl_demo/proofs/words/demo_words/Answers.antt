use Rattle.ncl_demo.specs.Offered.{demo_words}
use Rattle.ncl_demo.proofs.Terms.{All, All-push, Bool, List, [], ap, arith, demo_word, length, map, map-range_with_len_more, range_with_len, subst, sym, ◌*◌, ◌++◌, ◌+◌, ◌∙◌, ◌∷◌, ◌≡◌}
use Rattle.ncl_demo.proofs.words.demo_words.Goals as goal

pub returns-clause-words : goal.returns-clause-words
unfolding demo_words
returns-clause-words c =
    let all : c.loop-place.place ≡ 8 = omega arith in
    c.loop-place.invariant.words ∙ ap (λ n. map (demo_word c.args.bits) (range_with_len 0 n)) all

pub loop-place-preserved : goal.loop-place-preserved
loop-place-preserved c =
    let place = c.loop-place.place in
    let word = demo_word c.args.bits in
    let old = c.loop-place.words.items in
    let pushed : c.push.new.self.items ≡ old ++ word place ∷ [] = c.in_ok-push.ensures.items ∙ ap (λ x. old ++ x ∷ []) c.demo_word.ensures.word in
    let own : 0 + place ≡ place = omega arith in
    let IsWide : List Bool → Type 0 = λ w. length w ≡ 2 * c.args.bits in record {
      words = pushed ∙ ap (λ ws. ws ++ word place ∷ []) c.loop-place.invariant.words ∙ sym (map-range_with_len_more word 0 place place own);
      wide = subst (All IsWide) (sym pushed) (All-push IsWide old (word place) c.loop-place.invariant.wide (ap length (sym c.demo_word.ensures.word) ∙ c.demo_word.ensures.wide));
    }
