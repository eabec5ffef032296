-- The words that a text says.
use Rattle.ncl_sim_match.proofs.Terms.{AllByRecursion, AreWordsText, Bool, List, MOST_WORDS, None, NumberedText, Some, [], ap, arith, character_of, false, if◌then◌else◌, is_bit, length, length-map, list_all, map, nat_lt, nat_tests, option_or-none, refl, sym, text_of, told_lines, true, word_fault, words_fault, ℕ, ◌+◌, ◌<◌, ◌==◌, ◌∙◌, ◌∷◌, ◌≡◌, ◌≤◌}

-- what passes three tests passes the second and the third
passes : {X : Type 0} (first second third : Bool) (x y z : X) → (if first then (if second then (if third then None else Some x) else Some y) else Some z) ≡ None → (second ≡ true) × (third ≡ true)
passes true true true x y z e = (refl, refl)
passes true true false x y z e = absurd cc
passes true false third x y z e = absurd cc
passes false second third x y z e = absurd cc

-- a line that isn't broken has the width, and few words stand before it
line_fits : (width before : ℕ) (line : NumberedText) → word_fault width before line ≡ None → (length line.text ≡ width) × (before < MOST_WORDS)
line_fits width before line unbroken =
    let (wide, few) = passes (list_all is_bit line.text) (length line.text == width) (nat_lt before MOST_WORDS) _ _ _ unbroken in
    (grind (arith, nat_tests), grind (arith, nat_tests))

lines_fit : (width before : ℕ) (lines : List NumberedText) → before ≤ MOST_WORDS → words_fault width before lines ≡ None → (before + length lines ≤ MOST_WORDS) × AllByRecursion (λ (line : NumberedText). length line.text ≡ width) lines
lines_fit width before [] few unbroken = (omega arith, tt)
lines_fit width before (line ∷ lines) few unbroken =
    let (first, later) = option_or-none (word_fault width before line) (words_fault width (before + 1) lines) unbroken in
    let (wide, more) = line_fits width before line first in
    let (rest, others) = lines_fit width (before + 1) lines (omega arith) later in
    (omega arith, (wide, others))

all_wide : (width : ℕ) (words : List (List Bool)) (lines : List NumberedText) → map text_of words ≡ map (λ line. line.text) lines → AllByRecursion (λ (line : NumberedText). length line.text ≡ width) lines → AllByRecursion (λ (word : List Bool). length word ≡ width) words
all_wide width [] lines e fit = tt
all_wide width (word ∷ words) [] e fit = absurd cc
all_wide width (word ∷ words) (line ∷ lines) e (wide, others) =
    let first : text_of word ≡ line.text = cc in
    let rest : map text_of words ≡ map (λ line. line.text) lines = cc in
    (sym (length-map word character_of) ∙ ap length first ∙ wide, all_wide width words lines rest others)

-- they are few, and each has the width
pub words_fit : (width : ℕ) (bytes : List ℕ) (words : List (List Bool)) → AreWordsText width bytes words → (length words ≤ MOST_WORDS) × AllByRecursion (λ (word : List Bool). length word ≡ width) words
words_fit width bytes words is =
    let lines = told_lines bytes in
    let (few, wide) = lines_fit width 0 lines (omega arith) is.unbroken in
    (omega (arith, few, length-map words text_of, length-map lines (λ line. line.text), ap length is.said), all_wide width words lines is.said wide)
