-- The reserved words, a part of those of IEEE 1364-2005 (annex B), and what a token is by its kind and by
-- what it names.
use Rattle.std.specs.Prelude.{ℕ, ◌-◌, ◌&&◌, ◌||◌, List, [], ◌∷◌, codes, Bool, false, Option, Some, None, if◌then◌else◌, length, slice_get}
use Rattle.std.specs.List.{list_any}
use Rattle.std.specs.Str.{bytes_eq}
use Rattle.std.specs.Char.{is_ascii_lowercase}
use Rattle.ncl_token.specs.declared.token.TokenKind.{TokenKind}
use Rattle.ncl_token.specs.declared.token.TokenKind.TheVariants as token
use Rattle.ncl_reader.specs.declared.keyword.Keyword.{Keyword}
use Rattle.ncl_reader.specs.declared.keyword.Keyword.TheVariants.{Module, EndModule, Wire, LeftOut, Way as word_of}
use Rattle.ncl_reader.specs.declared.keyword.Way.TheVariants.{Input, Output}
use Rattle.ncl_reader.specs.declared.lexeme.Sign.TheVariants.{LParen, RParen, Comma, Semi, Dot, LBracket, RBracket, Colon, Other}
use Rattle.ncl_reader.specs.Lexemes.{Lexeme, Word, Name, Number, Mark}

-- the reserved words of what no netlist text of ours has: expressions, behaviour, gates of
-- the language and the like
abbrev pub left_out : List (List ℕ)
left_out =
    codes "always" ∷ codes "and" ∷ codes "assign" ∷ codes "begin" ∷ codes "buf" ∷ codes "case"
    ∷ codes "defparam" ∷ codes "end" ∷ codes "event" ∷ codes "for" ∷ codes "function" ∷ codes "generate"
    ∷ codes "genvar" ∷ codes "if" ∷ codes "initial" ∷ codes "inout" ∷ codes "integer" ∷ codes "localparam"
    ∷ codes "macromodule" ∷ codes "nand" ∷ codes "nor" ∷ codes "not" ∷ codes "or" ∷ codes "parameter"
    ∷ codes "primitive" ∷ codes "real" ∷ codes "reg" ∷ codes "signed" ∷ codes "specify" ∷ codes "supply0"
    ∷ codes "supply1" ∷ codes "table" ∷ codes "task" ∷ codes "time" ∷ codes "tri" ∷ codes "wand"
    ∷ codes "wor" ∷ codes "xnor" ∷ codes "xor" ∷ []

-- whether a word begins with a small letter, as these do
abbrev pub begins_small : List ℕ → Bool
begins_small [] = false
begins_small (first ∷ others) = is_ascii_lowercase first

-- a small letter, if there is a byte
abbrev pub is_small : Option ℕ → Bool
is_small None = false
is_small (Some byte) = is_ascii_lowercase byte

-- whether a word ends with a small letter
abbrev pub ends_small : List ℕ → Bool
ends_small x = is_small (slice_get x (length x - 1))

-- whether a word begins and ends with a small letter, as the reserved words do, or is one of the two that end with a digit
abbrev pub may_be_reserved : List ℕ → Bool
may_be_reserved x = begins_small x && (ends_small x || (bytes_eq x (codes "supply0") || bytes_eq x (codes "supply1")))

-- the reserved word that a word is, if it is one
abbrev pub keyword_of : List ℕ → Option Keyword
keyword_of x =
    if bytes_eq x (codes "module") then Some Module else (
    if bytes_eq x (codes "endmodule") then Some EndModule else (
    if bytes_eq x (codes "input") then Some (word_of Input) else (
    if bytes_eq x (codes "output") then Some (word_of Output) else (
    if bytes_eq x (codes "wire") then Some Wire else (
    if list_any (bytes_eq x) left_out then Some LeftOut else None)))))

abbrev pub word_lexeme : Option Keyword → List ℕ → Lexeme
word_lexeme (Some word) x = Word word
word_lexeme None x = Name x

-- an escaped name is a name even where it has the bytes of a reserved word
abbrev pub lexeme_of : TokenKind → List ℕ → Lexeme
lexeme_of token.Word x = word_lexeme (keyword_of x) x
lexeme_of token.Escaped x = Name x
lexeme_of token.LParen x = Mark LParen
lexeme_of token.RParen x = Mark RParen
lexeme_of token.Comma x = Mark Comma
lexeme_of token.Semi x = Mark Semi
lexeme_of token.Dot x = Mark Dot
lexeme_of token.LBracket x = Mark LBracket
lexeme_of token.RBracket x = Mark RBracket
lexeme_of token.Colon x = Mark Colon
lexeme_of token.Number x = Number x
lexeme_of token.Other x = Mark Other
