-- One or more with commas between, as a text and as a phrase.
use Rattle.ncl_writer.proofs.Terms.{AllByRecursion, Comma, Lexeme, List, Mark, Row, [], all_of, ap, append_assoc, join_with_byte, leaves, map, refl, row_phrase, true, with_commas, ℕ, ◌++◌, ◌∙◌, ◌∷◌, ◌≡◌}
use Rattle.ncl_token.specs.declared.token.TokenKind.TheVariants as token
use Rattle.ncl_writer.proofs.Lexing.{Lexes, lexes-along, lexes-as, lexes-comma}

-- the row of one and those behind it
abbrev pub row_of : {X : Type 0} → X → List X → Row X
row_of x [] = record { before = []; last = x }
row_of x (y ∷ ys) = record { before = x ∷ (row_of y ys).before; last = (row_of y ys).last }

pub all_of-row_of : {X : Type 0} (x : X) (xs : List X) → all_of (row_of x xs) ≡ x ∷ xs
all_of-row_of x [] = refl
all_of-row_of x (y ∷ ys) = ap (λ l. x ∷ l) (all_of-row_of y ys)

row_phrase-row_of : {X : Type 0} (phrase : X → List Lexeme) (x y : X) (ys : List X) → row_phrase phrase (row_of x (y ∷ ys)) ≡ phrase x ++ Mark Comma ∷ row_phrase phrase (row_of y ys)
row_phrase-row_of phrase x y ys =
    let more : List Lexeme = with_commas phrase (row_of y ys).before in
    let last : List Lexeme = phrase (row_of y ys).last in
    append_assoc (phrase x ++ Mark Comma ∷ []) more last ∙ append_assoc (phrase x) (Mark Comma ∷ []) (more ++ last)

module _ {X : Type 0} (text : X → List ℕ) (phrase : X → List Lexeme) (Good : X → Type 0) where
  -- each text has the lexemes of its phrase, where a word before what follows ends
  abbrev pub AreTexts : Type 0
  AreTexts = (x : X) (rest : List ℕ) (lexemes : List Lexeme) → Good x → leaves token.Word rest ≡ true → Lexes rest lexemes → Lexes (text x ++ rest) (phrase x ++ lexemes)

  -- so has the row
  pub lexes-row : AreTexts → (x : X) (xs : List X) (rest : List ℕ) (lexemes : List Lexeme) → Good x → AllByRecursion Good xs → leaves token.Word rest ≡ true → Lexes rest lexemes → Lexes (join_with_byte 44 (map text (x ∷ xs)) ++ rest) (row_phrase phrase (row_of x xs) ++ lexemes)
  lexes-row each x [] rest lexemes good all stops lexes = each x rest lexemes good stops lexes
  lexes-row each x (y ∷ ys) rest lexemes good all stops lexes =
      let joined : List ℕ = join_with_byte 44 (map text (y ∷ ys)) in
      let others : List Lexeme = row_phrase phrase (row_of y ys) in
      lexes-along ((text x ++ 44 ∷ joined) ++ rest) (text x ++ 44 ∷ (joined ++ rest)) (row_phrase phrase (row_of x (y ∷ ys)) ++ lexemes) (append_assoc (text x) (44 ∷ joined) rest)
      (lexes-as (text x ++ 44 ∷ (joined ++ rest)) (row_phrase phrase (row_of x (y ∷ ys)) ++ lexemes) (phrase x ++ Mark Comma ∷ (others ++ lexemes)) (ap (λ l. l ++ lexemes) (row_phrase-row_of phrase x y ys) ∙ append_assoc (phrase x) (Mark Comma ∷ others) lexemes)
      (each x (44 ∷ (joined ++ rest)) (Mark Comma ∷ (others ++ lexemes)) good refl
      (lexes-comma (joined ++ rest) (others ++ lexemes) (lexes-row each y ys rest lexemes all.0 all.1 stops lexes))))

  -- what may stand behind a parenthesis, where the first text may
  pub row_after_left : ((x : X) (rest : List ℕ) → Good x → leaves token.LParen (text x ++ rest) ≡ true) → (x : X) (xs : List X) (rest : List ℕ) → Good x → leaves token.LParen (join_with_byte 44 (map text (x ∷ xs)) ++ rest) ≡ true
  row_after_left starts x [] rest good = starts x rest good
  row_after_left starts x (y ∷ ys) rest good =
      let joined : List ℕ = join_with_byte 44 (map text (y ∷ ys)) in
      ap (leaves token.LParen) (append_assoc (text x) (44 ∷ joined) rest) ∙ starts x (44 ∷ (joined ++ rest)) good
