-- Where a sign alone, or a name that isn't declared, says what comes next.
use Rattle.std.specs.Prelude.{ℕ, List, [], ◌∷◌, Option, Some, None, is_some, Bool, true, false}
use Rattle.std.specs.List.{list_any}
use Rattle.ncl_reader.specs.declared.place.Place.{Place}
use Rattle.ncl_reader.specs.declared.place.Place.TheVariants as place
use Rattle.ncl_reader.specs.declared.lexeme.Sign.{Sign}
use Rattle.ncl_reader.specs.declared.lexeme.Sign.TheVariants.{LParen, RParen, Comma, Semi, Dot, RBracket}
use Rattle.ncl_reader.specs.Lexemes.{Lexeme, Name}
use Rattle.ncl_reader.specs.Rules.{BreaksRule, Clashes}

-- the place behind a sign, where a sign alone says it
abbrev pub after_sign : Place → Sign → Option Place
after_sign place.AfterModuleName LParen = Some place.FirstPort
after_sign place.AfterModuleName Semi = Some place.Item
after_sign place.AfterPort Comma = Some place.Port
after_sign place.AfterPort RParen = Some place.AfterPorts
after_sign place.AfterHeaderName Comma = Some place.HeaderName
after_sign place.AfterHeaderName RParen = Some place.AfterPorts
after_sign place.AfterPorts Semi = Some place.Item
after_sign place.AfterDeclared Comma = Some place.Declared
after_sign place.AfterDeclared Semi = Some place.Item
after_sign place.Connections LParen = Some place.Connection
after_sign place.Connection Dot = Some place.Pin
after_sign place.PinNet LParen = Some place.Net
after_sign place.AfterIndex RBracket = Some place.NetEnd
after_sign place.AfterInstance Semi = Some place.Item
after_sign at sign = None

-- a place where only such signs stand
abbrev pub takes_sign : Place → Bool
takes_sign at = list_any (λ sign. is_some (after_sign at sign)) (LParen ∷ RParen ∷ Comma ∷ Semi ∷ Dot ∷ RBracket ∷ [])

-- a place where a name stands that is neither declared nor that of a net
abbrev pub takes_plain : Place → Bool
takes_plain place.ModuleName = true
takes_plain place.FirstPort = true
takes_plain place.Port = true
takes_plain place.InstanceName = true
takes_plain place.Pin = true
takes_plain at = false

-- one where no other token stands
abbrev pub takes_name_alone : Place → Bool
takes_name_alone place.FirstPort = false
takes_name_alone at = takes_plain at

-- whether a name may stand, but for a clash
abbrev pub MayStand : Bool → List Lexeme → List ℕ → Type 0
MayStand true xs x = ¬ Clashes xs x → ¬ BreaksRule xs (Name x)
MayStand false xs x = BreaksRule xs (Name x)
