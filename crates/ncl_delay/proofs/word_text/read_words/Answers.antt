use Rattle.ncl_delay.proofs.Terms.{YieldsList-from_enumerate, YieldsList-from_slice_split, ap, err_from_is_err_and, inr, is_feed, map, numbered, rules, subst, sym, tells, word_fault, words_fault, ◌+◌, ◌∙◌}
use Rattle.ncl_delay.proofs.Told.{Part, placed, told_of-tells, told_next, no_line}
use Rattle.ncl_delay.proofs.WordLines.{AreWords, words-more, words-broken}
use Rattle.ncl_delay.proofs.word_text.read_words.Goals as goal

pub loop-place-preserved-in-Ok : goal.loop-place-preserved-in-Ok
loop-place-preserved-in-Ok c =
    let part : Part = (c.in-Some.place, c.in-Some.part) in
    let says = sym (ap tells c.trimmed-line.ensures) ∙ sym c.tells.ensures ∙ c.if-tells.true in
    let count = c.len.ensures ∙ c.loop-place.words.ok.0 in
    let unbroken = sym (λ i. word_fault c.args.width (count i) (record { number = c.in-Some.place + 1; text = c.trimmed-line.ensures i })) ∙ c.in_ok-word.ensures.0 in
    subst (λ lines. AreWords c.args.width lines c.push.new.self.items) (sym (told_of-tells c.loop-place.yielded part says))
    (rw c.in-Ok.ensures.items
    (words-more _ _ _ (numbered (placed part)) _ c.loop-place.invariant unbroken (c.in_ok-word.ensures.1 ∙ c.trimmed-line.ensures)))

pub returns-in_err-word-clause-broken : goal.returns-in_err-word-clause-broken
returns-in_err-word-clause-broken c =
    let goes = YieldsList-from_enumerate (YieldsList-from_slice_split _ is_feed c.args.bytes.now (cc) (cc) (cc) (λ x b q k. search rules)) (cc) in
    let part : Part = (c.in-Some.place, c.in-Some.part) in
    let next = told_next c.args.bytes.now goes c.loop-place.yielded _ c.loop-place.yielded_by _ _ part c.in-Some.is c.next.ensures.steps (sym (ap tells c.trimmed-line.ensures) ∙ sym c.tells.ensures ∙ c.if-tells.true) in
    let count = c.len.ensures ∙ c.loop-place.words.ok.0 in
    let broken = sym (λ i. word_fault c.args.width (count i) (record { number = c.in-Some.place + 1; text = c.trimmed-line.ensures i })) ∙ c.in_err-word.ensures in
    let p = err_from_is_err_and c.from_residual.result c.from_residual.ensures.1 in
    rw (p.1, p.2)
    (inr (ap (words_fault c.args.width 0) next.told ∙ words-broken _ _ _ (numbered (placed part)) next.later _ c.loop-place.invariant broken))

pub returns-clause-unbroken : goal.returns-clause-unbroken
returns-clause-unbroken c =
    let goes = YieldsList-from_enumerate (YieldsList-from_slice_split _ is_feed c.args.bytes.now (cc) (cc) (cc) (λ x b q k. search rules)) (cc) in
    let all = no_line c.args.bytes.now goes c.loop-place.yielded _ c.loop-place.yielded_by _ _ c.in-None.is c.next.ensures.steps in
    ap (words_fault c.args.width 0) (sym all) ∙ c.loop-place.invariant.unbroken

pub returns-clause-words : goal.returns-clause-words
returns-clause-words c =
    let goes = YieldsList-from_enumerate (YieldsList-from_slice_split _ is_feed c.args.bytes.now (cc) (cc) (cc) (λ x b q k. search rules)) (cc) in
    let all = no_line c.args.bytes.now goes c.loop-place.yielded _ c.loop-place.yielded_by _ _ c.in-None.is c.next.ensures.steps in
    c.loop-place.invariant.texts ∙ ap (map (λ line. line.text)) all
