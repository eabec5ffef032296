-- What a token of a netlist text is to the grammar: a reserved word, a name, a number or a sign.
use Rattle.std.specs.Prelude.{ℕ, List, map}
use Rattle.ncl_reader.specs.declared.keyword.Keyword.{Keyword}
use Rattle.ncl_reader.specs.declared.lexeme.Sign.{Sign}

pub data Lexeme : Type 0 where
  -- a reserved word
  Word : Keyword → Lexeme
  -- a name, of an escaped name without its backslash
  Name : List ℕ → Lexeme
  -- a number, by its digits
  Number : List ℕ → Lexeme
  -- a parenthesis, a bracket, a comma, a semicolon, a dot, a colon, or a token that stands nowhere in the
  -- grammar
  Mark : Sign → Lexeme
  -- the end of the text
  End : Lexeme
  -- a byte at which no token begins or goes on
  Bad : Lexeme

-- a lexeme and the place of its first byte
pub record Placed : Type 0 where
  pub lexeme : Lexeme
  pub place : ℕ

abbrev pub lexemes : List Placed → List Lexeme
lexemes ts = map (λ (t : Placed). t.lexeme) ts
