-- The lexemes of names and reserved words.
use Rattle.ncl_writer.proofs.Terms.{Bool, EndModule, Input, IsToken, IsWritableName, Keyword, LeftOut, Lexeme, List, Module, Name, None, Option, Output, Some, Wire, Word, [], and_from, and_parts, ap, arith, begins_word, both_ways, bytes_eq, codes, continues_word, eqb-true, false, if◌then◌else◌, inl, inr, is_ascii_alphanumeric, is_ascii_uppercase, is_capital_word, is_escaped, is_graphic, is_in_range, is_none, is_plain, is_word, keyword_of, leaves, leb-true, left_out, length, length_push, list_all, list_any, name_of, nat_eq, nat_le, not, or_cases, or_left, or_right, refl, spelled_name, subst, take, take_at, true, word_lexeme, word_of, ℕ, ◌&&◌, ◌++◌, ◌-◌, ◌<◌, ◌==◌, ◌||◌, ◌∙◌, ◌∷◌, ◌≡◌}
use Rattle.ncl_token.specs.declared.token.TokenKind.TheVariants as token
use Rattle.ncl_writer.proofs.Lexing.{Lexes, lexes-nothing, lexes-white, lexes-token}

-- ---- names

-- a plain name is a word
plain_token : (name : List ℕ) → is_plain name ≡ true → IsToken token.Word name
plain_token [] plain = absurd cc
plain_token (byte ∷ rest) plain =
    let (begins, more) = and_parts (begins_word byte) (list_all continues_word rest && is_none (keyword_of (byte ∷ rest))) plain in
    is_word byte rest refl begins (and_parts (list_all continues_word rest) (is_none (keyword_of (byte ∷ rest))) more).0

-- and no reserved one
plain_lexeme : (name : List ℕ) → is_plain name ≡ true → word_lexeme (keyword_of name) name ≡ Name name
plain_lexeme [] plain = absurd cc
plain_lexeme (byte ∷ rest) plain =
    let (begins, more) = and_parts (begins_word byte) (list_all continues_word rest && is_none (keyword_of (byte ∷ rest))) plain in
    by (keyword_of (byte ∷ rest)) (and_parts (list_all continues_word rest) (is_none (keyword_of (byte ∷ rest))) more).1
  where
    by : (word : Option Keyword) → is_none word ≡ true → word_lexeme word (byte ∷ rest) ≡ Name (byte ∷ rest)
    by None none = refl
    by (Some word) none = absurd cc

pub lexes-plain : (name rest : List ℕ) (lexemes : List Lexeme) → is_plain name ≡ true → leaves token.Word rest ≡ true → Lexes rest lexemes → Lexes (name ++ rest) (Name name ∷ lexemes)
lexes-plain name rest lexemes plain stops lexes =
    subst (λ lexeme. Lexes (name ++ rest) (lexeme ∷ lexemes)) (plain_lexeme name plain) (lexes-token token.Word name rest lexemes (plain_token name plain) stops lexes)

escaped_name : (name : List ℕ) → name_of token.Escaped (92 ∷ (name ++ 32 ∷ [])) ≡ name
escaped_name name =
    let count : length (92 ∷ (name ++ 32 ∷ [])) - 1 - 1 ≡ length name = omega (arith, length_push name 32) in
    ap (λ n. take n (name ++ 32 ∷ [])) count ∙ take_at name (32 ∷ []) (length name) refl

writable_parts : (name : List ℕ) → IsWritableName name → (0 < length name) × (list_all is_graphic name ≡ true)
writable_parts [] may = absurd cc
writable_parts (byte ∷ rest) may = (omega arith, may)

lexes-escaped : (name rest : List ℕ) (lexemes : List Lexeme) → IsWritableName name → Lexes rest lexemes → Lexes ((92 ∷ (name ++ 32 ∷ [])) ++ rest) (Name name ∷ lexemes)
lexes-escaped name rest lexemes may lexes =
    let (some, graphic) = writable_parts name may in
    subst (λ x. Lexes ((92 ∷ (name ++ 32 ∷ [])) ++ rest) (Name x ∷ lexemes)) (escaped_name name)
    (lexes-token token.Escaped (92 ∷ (name ++ 32 ∷ [])) rest lexemes (is_escaped name 32 refl some graphic refl) refl lexes)

-- a name as it is written
pub lexes-name : (name rest : List ℕ) (lexemes : List Lexeme) → IsWritableName name → leaves token.Word rest ≡ true → Lexes rest lexemes → Lexes (spelled_name name ++ rest) (Name name ∷ lexemes)
lexes-name name rest lexemes may stops lexes = by (is_plain name) refl
  where
    by : (b : Bool) → is_plain name ≡ b → Lexes ((if b then name else 92 ∷ (name ++ 32 ∷ [])) ++ rest) (Name name ∷ lexemes)
    by true plain = lexes-plain name rest lexemes plain stops lexes
    by false escaped = lexes-escaped name rest lexemes may lexes

-- ---- names of cells and pins

-- a capital letter begins a word, and letters and digits go on with it
capital_begins : (byte : ℕ) → is_ascii_uppercase byte ≡ true → begins_word byte ≡ true
capital_begins byte capital = or_left _ _ (or_right (nat_le 97 byte && nat_le byte 122) _ capital)

alphanumeric_continues : (bytes : List ℕ) → list_all is_ascii_alphanumeric bytes ≡ true → list_all continues_word bytes ≡ true
alphanumeric_continues [] all = refl
alphanumeric_continues (byte ∷ bytes) all =
    let (first, rest) = and_parts (is_ascii_alphanumeric byte) (list_all is_ascii_alphanumeric bytes) all in
    and_from _ _ (one first) (alphanumeric_continues bytes rest)
  where
    one : is_ascii_alphanumeric byte ≡ true → continues_word byte ≡ true
    one is =
        elim (or_cases (is_in_range 48 57 byte || is_in_range 65 90 byte) (is_in_range 97 122 byte) is) [
          | inl digit_or_capital ↦ elim (or_cases (is_in_range 48 57 byte) (is_in_range 65 90 byte) digit_or_capital) [
            | inl digit ↦ or_right (begins_word byte) _ (or_left _ _ digit)
            | inr capital ↦ or_left _ _ (capital_begins byte capital)
          ]
          | inr small ↦ or_left _ _ (or_left _ _ (or_left _ _ small))
        ]

-- no reserved word begins with a capital letter
abbrev begins_small : List ℕ → Bool
begins_small [] = false
begins_small (byte ∷ rest) = nat_le 97 byte

other_word : (byte : ℕ) (rest word : List ℕ) → is_ascii_uppercase byte ≡ true → begins_small word ≡ true → bytes_eq (byte ∷ rest) word ≡ false
other_word byte rest [] capital small = refl
other_word byte rest (first ∷ word) capital small = ap (λ b. b && bytes_eq rest word) (by (nat_eq byte first) refl)
  where
    by : (b : Bool) → nat_eq byte first ≡ b → nat_eq byte first ≡ false
    by true same =
        let high = (and_parts (nat_le 65 byte) (nat_le byte 90) capital).1 in
        absurd (omega (arith, leb-true byte 90 high, leb-true 97 first small, eqb-true byte first same))
    by false other = other

other_words : (byte : ℕ) (rest : List ℕ) (words : List (List ℕ)) → is_ascii_uppercase byte ≡ true → list_all begins_small words ≡ true → list_any (bytes_eq (byte ∷ rest)) words ≡ false
other_words byte rest [] capital small = refl
other_words byte rest (word ∷ words) capital small =
    let (first, more) = and_parts (begins_small word) (list_all begins_small words) small in
    (λ i. other_word byte rest word capital first i || list_any (bytes_eq (byte ∷ rest)) words) ∙ other_words byte rest words capital more

unreserved : (byte : ℕ) (rest : List ℕ) → is_ascii_uppercase byte ≡ true → keyword_of (byte ∷ rest) ≡ None
unreserved byte rest capital =
    let other : (word : List ℕ) → begins_small word ≡ true → bytes_eq (byte ∷ rest) word ≡ false = λ word. other_word byte rest word capital in
    by (bytes_eq (byte ∷ rest) (codes "module")) (bytes_eq (byte ∷ rest) (codes "endmodule")) (bytes_eq (byte ∷ rest) (codes "input")) (bytes_eq (byte ∷ rest) (codes "output")) (bytes_eq (byte ∷ rest) (codes "wire")) (list_any (bytes_eq (byte ∷ rest)) left_out)
    (other (codes "module") refl) (other (codes "endmodule") refl) (other (codes "input") refl) (other (codes "output") refl) (other (codes "wire") refl) (other_words byte rest left_out capital refl)
  where
    by : (m e i o w l : Bool) → m ≡ false → e ≡ false → i ≡ false → o ≡ false → w ≡ false → l ≡ false
        → (if m then Some Module else (if e then Some EndModule else (if i then Some (word_of Input) else (if o then Some (word_of Output) else (if w then Some (Wire) else (if l then Some LeftOut else None)))))) ≡ None
    by m e i o w l a b c d f g = rw (a, b, c, d, f, g) refl

-- a capital letter, and letters and digits, is a plain name
pub capital_plain : (name : List ℕ) → is_capital_word name ≡ true → is_plain name ≡ true
capital_plain [] capital = absurd cc
capital_plain (byte ∷ rest) capital =
    let (first, more) = and_parts (is_ascii_uppercase byte) (list_all is_ascii_alphanumeric rest) capital in
    and_from _ _ (capital_begins byte first) (and_from _ _ (alphanumeric_continues rest more) (ap is_none (unreserved byte rest first)))

-- ---- what may follow a parenthesis

-- no name as it is written begins with a star (42)
pub name_after_left : (name rest : List ℕ) → IsWritableName name → leaves token.LParen (spelled_name name ++ rest) ≡ true
name_after_left name rest may = by (is_plain name) refl
  where
    word : (text : List ℕ) → is_plain text ≡ true → leaves token.LParen (text ++ rest) ≡ true
    word [] plain = absurd cc
    word (byte ∷ more) plain = no_star (byte == 42) refl
      where
        begins : begins_word byte ≡ true
        begins = (and_parts (begins_word byte) (list_all continues_word more && is_none (keyword_of (byte ∷ more))) plain).0

        no_star : (b : Bool) → (byte == 42) ≡ b → not (byte == 42) ≡ true
        no_star true same = absurd (both_ways (begins_word 42) refl (subst (λ z. begins_word z ≡ true) (eqb-true byte 42 same) begins))
        no_star false other = ap not other

    by : (b : Bool) → is_plain name ≡ b → leaves token.LParen ((if b then name else 92 ∷ (name ++ 32 ∷ [])) ++ rest) ≡ true
    by true plain = word name plain
    by false escaped = refl

-- ---- reserved words

pub lexes-module : (rest : List ℕ) (lexemes : List Lexeme) → Lexes rest lexemes → Lexes (codes "module " ++ rest) (Word Module ∷ lexemes)
lexes-module rest lexemes lexes = lexes-token token.Word (codes "module") (32 ∷ rest) lexemes (is_word 109 (codes "odule") refl refl refl) refl (lexes-white 32 rest lexemes refl lexes)

pub lexes-input : (rest : List ℕ) (lexemes : List Lexeme) → Lexes rest lexemes → Lexes (codes "input " ++ rest) (Word (word_of Input) ∷ lexemes)
lexes-input rest lexemes lexes = lexes-token token.Word (codes "input") (32 ∷ rest) lexemes (is_word 105 (codes "nput") refl refl refl) refl (lexes-white 32 rest lexemes refl lexes)

pub lexes-output : (rest : List ℕ) (lexemes : List Lexeme) → Lexes rest lexemes → Lexes (codes "output " ++ rest) (Word (word_of Output) ∷ lexemes)
lexes-output rest lexemes lexes = lexes-token token.Word (codes "output") (32 ∷ rest) lexemes (is_word 111 (codes "utput") refl refl refl) refl (lexes-white 32 rest lexemes refl lexes)

pub lexes-wire : (rest : List ℕ) (lexemes : List Lexeme) → Lexes rest lexemes → Lexes (codes "wire " ++ rest) (Word (Wire) ∷ lexemes)
lexes-wire rest lexemes lexes = lexes-token token.Word (codes "wire") (32 ∷ rest) lexemes (is_word 119 (codes "ire") refl refl refl) refl (lexes-white 32 rest lexemes refl lexes)

pub lexes-endmodule : Lexes (codes "endmodule\n") (Word EndModule ∷ [])
lexes-endmodule = lexes-token token.Word (codes "endmodule") (10 ∷ []) [] (is_word 101 (codes "ndmodule") refl refl refl) refl (lexes-white 10 [] [] refl lexes-nothing)
