-- Words as the lines of a text are gone through.
use Rattle.ncl_delay.proofs.Terms.{Bool, List, None, NumberedText, Some, WordsFault, [], ap, arith, length, length-map, map, map-append, option_or, sym, text_of, word_fault, words_fault, ℕ, ◌++◌, ◌+◌, ◌∙◌, ◌∷◌, ◌≡◌}
use Rattle.ncl_delay.proofs.FirstOf.{option_or-none, option_or_assoc}

words_fault-append : (width before : ℕ) (lines more : List NumberedText) → words_fault width before (lines ++ more) ≡ option_or (words_fault width before lines) (words_fault width (before + length lines) more)
words_fault-append width before [] more = ap (λ n. words_fault width n more) (omega arith)
words_fault-append width before (line ∷ lines) more =
    let count : before + 1 + length lines ≡ before + length (line ∷ lines) = omega arith in
    ap (option_or (word_fault width before line)) (words_fault-append width (before + 1) lines more ∙ ap (λ n. option_or (words_fault width (before + 1) lines) (words_fault width n more)) count)
    ∙ sym (option_or_assoc (word_fault width before line) (words_fault width (before + 1) lines) (words_fault width (before + length (line ∷ lines)) more))

-- no line is broken, and the words are those of the lines
pub record AreWords (width : ℕ) (lines : List NumberedText) (words : List (List Bool)) : Type 0 where
  pub unbroken : words_fault width 0 lines ≡ None
  pub texts : map text_of words ≡ map (λ line. line.text) lines

as_many : (width : ℕ) (lines : List NumberedText) (words : List (List Bool)) → AreWords width lines words → 0 + length lines ≡ length words
as_many width lines words so_far =
    omega (arith, length-map words text_of, length-map lines (λ line. line.text), ap length so_far.texts)

up_to : (width : ℕ) (lines : List NumberedText) (words : List (List Bool)) (line : NumberedText) → AreWords width lines words → words_fault width 0 (lines ++ line ∷ []) ≡ word_fault width (length words) line
up_to width lines words line so_far =
    words_fault-append width 0 lines (line ∷ [])
    ∙ (λ i. option_or (so_far.unbroken i) (option_or-none (word_fault width (as_many width lines words so_far i) line) i))

pub words-more : (width : ℕ) (lines : List NumberedText) (words : List (List Bool)) (line : NumberedText) (word : List Bool) → AreWords width lines words → word_fault width (length words) line ≡ None → text_of word ≡ line.text → AreWords width (lines ++ line ∷ []) (words ++ word ∷ [])
words-more width lines words line word so_far unbroken is = record {
  unbroken = up_to width lines words line so_far ∙ unbroken;
  texts = map-append text_of words (word ∷ []) ∙ (λ i. so_far.texts i ++ is i ∷ []) ∙ sym (map-append (λ line. line.text) lines (line ∷ []));
}

-- the first broken line comes after lines that are not broken
pub words-broken : (width : ℕ) (lines : List NumberedText) (words : List (List Bool)) (line : NumberedText) (later : List NumberedText) (fault : WordsFault) → AreWords width lines words → word_fault width (length words) line ≡ Some fault → words_fault width 0 ((lines ++ line ∷ []) ++ later) ≡ Some fault
words-broken width lines words line later fault so_far broken =
    words_fault-append width 0 (lines ++ line ∷ []) later
    ∙ ap (λ o. option_or o (words_fault width (0 + length (lines ++ line ∷ [])) later)) (up_to width lines words line so_far ∙ broken)
