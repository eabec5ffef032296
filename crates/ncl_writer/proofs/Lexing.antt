-- The lexemes of a text that is put together piece by piece, from its end.
use Rattle.ncl_writer.proofs.Terms.{AreTokens, Comma, Dot, IsToken, LParen, Lexeme, List, Mark, RParen, Semi, Token, TokenKind, [], ap, append_assoc, arith, drop, drop_at, is_comma, is_dot, is_left_parenthesis, is_right_parenthesis, is_semicolon, is_white, leaves, length, length-append, length_push, lexeme_of, map, name_of, next_here, no_space, refl, slice_range, subst, sym, take, take_at, then_token, true, white_then, ℕ, ◌++◌, ◌+◌, ◌-◌, ◌∙◌, ◌∷◌, ◌≡◌}
use Rattle.ncl_token.specs.declared.token.TokenKind.TheVariants as token
use Rattle.ncl_token.specs.Tokens.{at_end, End}

-- the lexeme of a token of some bytes
abbrev pub lexeme_in : List ℕ → Token → Lexeme
lexeme_in bytes token = lexeme_of token.kind (name_of token.kind (slice_range bytes token.start token.end))

-- where a text stands behind some bytes, it has these lexemes, and no bad byte
pub record LexesBehind (before text : List ℕ) (lexemes : List Lexeme) : Type 0 where
  pub tokens : List Token
  pub are : AreTokens (length before) text tokens End
  pub say : map (lexeme_in (before ++ text)) tokens ≡ lexemes

-- a text has these lexemes wherever it stands
abbrev pub Lexes : List ℕ → List Lexeme → Type 0
Lexes text lexemes = (before : List ℕ) → LexesBehind before text lexemes

pub lexes-nothing : Lexes [] []
lexes-nothing before = record { tokens = []; are = at_end no_space; say = refl }

-- a white space byte in front
pub lexes-white : (byte : ℕ) (rest : List ℕ) (lexemes : List Lexeme) → is_white byte ≡ true → Lexes rest lexemes → Lexes (byte ∷ rest) lexemes
lexes-white byte rest lexemes white lexes before =
    let more = lexes (before ++ byte ∷ []) in
    record {
      tokens = more.tokens;
      are = white_then (length before) byte rest more.tokens End white (subst (λ place. AreTokens place rest more.tokens End) (length_push before byte) more.are);
      say = ap (λ text. map (lexeme_in text) more.tokens) (sym (append_assoc before (byte ∷ []) rest)) ∙ more.say;
    }

-- a token in front that the text leaves as it is
pub lexes-token : (kind : TokenKind) (span rest : List ℕ) (lexemes : List Lexeme) → IsToken kind span → leaves kind rest ≡ true → Lexes rest lexemes → Lexes (span ++ rest) (lexeme_of kind (name_of kind span) ∷ lexemes)
lexes-token kind span rest lexemes is_token stops lexes before =
    let more = lexes (before ++ span) in
    let start : ℕ = length before in
    let behind : drop start (before ++ (span ++ rest)) ≡ span ++ rest = drop_at before (span ++ rest) start refl in
    let count : start + length span - start ≡ length span = omega arith in
    let slice : slice_range (before ++ (span ++ rest)) start (start + length span) ≡ span =
    ap (λ n. take n (drop start (before ++ (span ++ rest)))) count ∙ ap (take (length span)) behind ∙ take_at span rest (length span) refl in
    let others : map (lexeme_in (before ++ (span ++ rest))) more.tokens ≡ lexemes =
    ap (λ text. map (lexeme_in text) more.tokens) (sym (append_assoc before span rest)) ∙ more.say in
    record {
      tokens = record { kind = kind; start = start; end = start + length span } ∷ more.tokens;
      are = then_token (next_here start kind span rest is_token stops) (subst (λ place. AreTokens place rest more.tokens End) (length-append before span) more.are);
      say = λ i. lexeme_of kind (name_of kind (slice i)) ∷ others i;
    }

-- the same text, and the same lexemes
pub lexes-along : (text other : List ℕ) (lexemes : List Lexeme) → text ≡ other → Lexes other lexemes → Lexes text lexemes
lexes-along text other lexemes same lexes = subst (λ t. Lexes t lexemes) (sym same) lexes

pub lexes-as : (text : List ℕ) (lexemes others : List Lexeme) → lexemes ≡ others → Lexes text others → Lexes text lexemes
lexes-as text lexemes others same lexes = subst (Lexes text) (sym same) lexes

-- ---- signs

pub lexes-left : (rest : List ℕ) (lexemes : List Lexeme) → leaves token.LParen rest ≡ true → Lexes rest lexemes → Lexes (40 ∷ rest) (Mark LParen ∷ lexemes)
lexes-left rest lexemes stops = lexes-token token.LParen (40 ∷ []) rest lexemes (is_left_parenthesis refl) stops

pub lexes-right : (rest : List ℕ) (lexemes : List Lexeme) → Lexes rest lexemes → Lexes (41 ∷ rest) (Mark RParen ∷ lexemes)
lexes-right rest lexemes = lexes-token token.RParen (41 ∷ []) rest lexemes (is_right_parenthesis refl) refl

pub lexes-comma : (rest : List ℕ) (lexemes : List Lexeme) → Lexes rest lexemes → Lexes (44 ∷ rest) (Mark Comma ∷ lexemes)
lexes-comma rest lexemes = lexes-token token.Comma (44 ∷ []) rest lexemes (is_comma refl) refl

pub lexes-semi : (rest : List ℕ) (lexemes : List Lexeme) → Lexes rest lexemes → Lexes (59 ∷ rest) (Mark Semi ∷ lexemes)
lexes-semi rest lexemes = lexes-token token.Semi (59 ∷ []) rest lexemes (is_semicolon refl) refl

pub lexes-dot : (rest : List ℕ) (lexemes : List Lexeme) → Lexes rest lexemes → Lexes (46 ∷ rest) (Mark Dot ∷ lexemes)
lexes-dot rest lexemes = lexes-token token.Dot (46 ∷ []) rest lexemes (is_dot refl) refl
