-- Why a text is refused at its first token that breaks. Four classes are asked in order, of what stands before the
-- token and of what it is; the rest is a fault of syntax.
use Rattle.std.specs.Prelude.{◌≡◌, ℕ, List, ◌∷◌, ◌++◌, ◌⊎◌}
use Rattle.ncl_reader.specs.declared.net_fault.NetFault.{NetFault}
use Rattle.ncl_reader.specs.declared.net_fault.NetFault.TheVariants.{Syntax, UnknownCell, BadPins, Unsupported}
use Rattle.ncl_reader.specs.declared.keyword.Keyword.TheVariants.{EndModule}
use Rattle.ncl_reader.specs.declared.lexeme.Sign.TheVariants.{RParen, LBracket, RBracket, Colon, Other}
use Rattle.ncl_reader.specs.Lexemes.{Lexeme, Word, Name, Number, Mark, Placed, lexemes}
use Rattle.ncl_reader.specs.Forms.{IsAtItem, IsAtConn, IsAtPin, IsAtNet, IsBehindNet, IsAtIndex, IsAtClose}
use Rattle.ncl_reader.specs.Rules.{IsOutside, Redeclares, Clashes, Crowds, Breaks, NoneBreaks}

-- where an item may begin, a name that is no cell's
abbrev pub IsUnknown : List Lexeme → Lexeme → Type 0
IsUnknown before (Name x) = IsAtItem before
IsUnknown before t = ⊥

-- a name of a pin that the cell hasn't or that is joined; and a `)` where a pin is missing
abbrev pub HasBadPins : List Lexeme → Lexeme → Type 0
HasBadPins before (Name x) = IsAtPin before
HasBadPins before (Mark RParen) = IsAtClose before
HasBadPins before t = ⊥

-- an `endmodule` that comes too early, a bit that the vector hasn't, and a name that was declared or used
-- otherwise
abbrev pub IsMisread : List Lexeme → Lexeme → Type 0
IsMisread before (Word EndModule) = IsAtItem before
IsMisread before (Number digits) = IsOutside before digits
IsMisread before (Name x) = Redeclares before x
IsMisread before t = ⊥

-- what Verilog has and no text of ours: marks, brackets, strings and numbers that may not stand there; reserved
-- words; a connection by position; a pin without a net, and a whole vector on a pin; names of bits beside the
-- vector; and too many bits of ports
abbrev pub IsLeftOut : List Lexeme → Lexeme → Type 0
IsLeftOut before (Mark Other) = Unit {0}
IsLeftOut before (Mark LBracket) = Unit {0}
IsLeftOut before (Mark RBracket) = Unit {0}
IsLeftOut before (Mark Colon) = Unit {0}
IsLeftOut before (Number digits) = Unit {0}
IsLeftOut before (Word word) = Unit {0}
IsLeftOut before (Name x) = IsAtConn before ⊎ (Clashes before x ⊎ Crowds before x)
IsLeftOut before (Mark RParen) =
    IsAtNet before ⊎ (((net : List ℕ) × IsBehindNet before net) ⊎ ((net : List ℕ) × IsAtIndex before net))
IsLeftOut before t = ⊥

-- the fault of a token that breaks, at its place
abbrev pub IsFaultAt : List Lexeme → Placed → NetFault → Type 0
IsFaultAt before t (UnknownCell p) = (p ≡ t.place) × IsUnknown before t.lexeme
IsFaultAt before t (BadPins p) = (p ≡ t.place) × ¬ IsUnknown before t.lexeme × HasBadPins before t.lexeme
IsFaultAt before t (Unsupported p) =
    (p ≡ t.place) × ¬ IsUnknown before t.lexeme × ¬ HasBadPins before t.lexeme × ¬ IsMisread before t.lexeme
    × IsLeftOut before t.lexeme
IsFaultAt before t (Syntax p) =
    (p ≡ t.place) × ¬ IsUnknown before t.lexeme × ¬ HasBadPins before t.lexeme
    × (IsMisread before t.lexeme ⊎ ¬ IsLeftOut before t.lexeme)
IsFaultAt before t other = ⊥

-- the first token that breaks, and the fault of it
pub record IsRefusedAt (ts : List Placed) (fault : NetFault) : Type 0 where
  pub before : List Placed
  pub token : Placed
  pub after : List Placed
  pub parts : ts ≡ before ++ token ∷ after
  pub unbroken : NoneBreaks (lexemes before)
  pub breaks : Breaks (lexemes before) token.lexeme
  pub is : IsFaultAt (lexemes before) token fault
