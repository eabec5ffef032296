-- What a text says, or why it is refused: netlist texts are structural modules, a part of IEEE 1364-2005.
use Rattle.std.specs.Prelude.{◌≡◌, ◌≢◌, ℕ, List, [], ◌∷◌, ◌++◌, map, length, slice_range}
use Rattle.ncl_token.specs.declared.token.Token.{Token}
use Rattle.ncl_token.specs.Tokens.{TokensOf, Stop, End as at_end, Bad as at_bad}
use Rattle.ncl_token.specs.Reading.{name_of}
use Rattle.ncl_netlist.specs.declared.parts.Parts.{Parts}
use Rattle.ncl_netlist.specs.declared.build_fault.BuildFault.TheVariants as build
use Rattle.ncl_netlist.specs.Faults.{IsFaultOf}
use Rattle.ncl_reader.specs.declared.net_fault.NetFault.{NetFault}
use Rattle.ncl_reader.specs.declared.net_fault.NetFault.TheVariants.{Build, Memory}
use Rattle.ncl_reader.specs.Lexemes.{End, Bad, Placed, lexemes}
use Rattle.ncl_reader.specs.Words.{lexeme_of}
use Rattle.ncl_reader.specs.Grammar.{Text, text_phrase}
use Rattle.ncl_reader.specs.Rules.{NoneBreaks}
use Rattle.ncl_reader.specs.Refusals.{IsRefusedAt}
use Rattle.ncl_reader.specs.Says.{Says}

-- a token, by its kind and by what it names, at its first byte
abbrev pub placed_of : List ℕ → Token → Placed
placed_of bytes token = record {
  lexeme = lexeme_of token.kind (name_of token.kind (slice_range bytes token.start token.end));
  place = token.start;
}

-- the end of the text at its length, or the bad byte at its place
abbrev pub stop_of : List ℕ → Stop → Placed
stop_of bytes at_end = record { lexeme = End; place = length bytes }
stop_of bytes (at_bad place) = record { lexeme = Bad; place = place }

-- the tokens, and what stops them
abbrev pub placed_in : List ℕ → List Token → Stop → List Placed
placed_in bytes tokens stop = map (placed_of bytes) tokens ++ stop_of bytes stop ∷ []

-- these are the lexemes of the text
abbrev pub IsLexed : List ℕ → List Placed → Type 0
IsLexed bytes ts =
    (tokens : List Token) × (stop : Stop) × TokensOf bytes tokens stop × (ts ≡ placed_in bytes tokens stop)

-- a tree derives the lexemes, none of them breaks, and the tree says these parts
pub record ReadsTokens (ts : List Placed) (parts : Parts) : Type 0 where
  pub text : Text
  pub derives : lexemes ts ≡ text_phrase text
  pub unbroken : NoneBreaks (lexemes ts)
  pub says : Says text parts

-- the text says these parts
abbrev pub Reads : List ℕ → Parts → Type 0
Reads bytes parts = (ts : List Placed) × IsLexed bytes ts × ReadsTokens ts parts

-- the text is refused: it says no parts, since a token breaks
abbrev pub IsRefused : List ℕ → NetFault → Type 0
IsRefused bytes fault = (ts : List Placed) × IsLexed bytes ts × IsRefusedAt ts fault

-- the text is refused; want of memory is no fault of the text, and may come at all of them
abbrev pub IsReadFault : List ℕ → NetFault → Type 0
IsReadFault bytes Memory = Unit {0}
IsReadFault bytes fault = IsRefused bytes fault

-- the text is refused, or it says parts that are no netlist
abbrev pub IsNetFault : List ℕ → NetFault → Type 0
IsNetFault bytes (Build f) = (f ≢ build.Memory) × (parts : Parts) × Reads bytes parts × IsFaultOf parts f
IsNetFault bytes fault = IsReadFault bytes fault
