-- What is kept of what a declaration begins with.
use Rattle.std.specs.Prelude.{◌≡◌, ℕ, ◌<◌, List, [], ◌∷◌, ◌++◌, Option, Some, None, Bool, true, false}
use Rattle.std.specs.Bool.{Decides}
use Rattle.std.specs.Option.{option_map}
use Rattle.std.specs.Str.Parse.{digits_value}
use Rattle.ncl_reader.specs.declared.place.LeadPlace.{LeadPlace}
use Rattle.ncl_reader.specs.declared.place.LeadPlace.TheVariants as lead
use Rattle.ncl_reader.specs.declared.lead.Lead.{Lead as Led}
use Rattle.ncl_reader.specs.declared.span.Span.{Span}
use Rattle.ncl_reader.specs.Lexemes.{Lexeme}
use Rattle.ncl_reader.specs.Grammar.{Direction, Lead, Gives, Wires, Range, Spec}
use Rattle.ncl_reader.specs.Says.{is_output}
use Rattle.ncl_reader.specs.Vectors.{span_of}
use Rattle.ncl_reader.specs.Forms.{IsDeclaring}
use Rattle.ncl_reader.specs.Rules.{Breaks, Crowds}
use Rattle.ncl_reader.specs.Partial.{LeadPart, led, bracketed, firsted, coloned, lasted, ranged, lead_place, Partial, spelled}

-- whether a declaration tells outputs: `wire` gives no direction
abbrev pub direction_output : Direction → Option Bool
direction_output direction = Some (is_output direction)

abbrev pub lead_output : Lead → Option Bool
lead_output (Gives direction) = Some (is_output direction)
lead_output Wires = None

-- the numbers of a range, if there is one, and they are small
pub record IsSpanOf (range : Option Range) (span : Option Span) : Type 0 where
  pub same : option_map span_of range ≡ span
  pub few : (s : Span) → span ≡ Some s → (s.first < 65536) × (s.last < 65536)

-- the value of digits, and it is small
abbrev pub IsValue : List ℕ → ℕ → Type 0
IsValue digits n = (n ≡ digits_value 10 digits) × (n < 65536)

-- what the names of a declaration are declared with
abbrev pub IsSaid : {L : Type 0} → (L → Option Bool) → Spec L → Led → Type 0
IsSaid output spec kept = (kept.output ≡ output spec.lead) × IsSpanOf spec.range kept.span

-- and as far as it is read
abbrev pub IsLed : {L : Type 0} → (L → Option Bool) → LeadPart L → Led → Type 0
IsLed output (led l) kept = (kept.output ≡ output l) × (kept.span ≡ None)
IsLed output (bracketed l) kept = kept.output ≡ output l
IsLed output (firsted l first) kept = (kept.output ≡ output l) × IsValue first kept.first
IsLed output (coloned l first) kept = (kept.output ≡ output l) × IsValue first kept.first
IsLed output (lasted l first last) kept = (kept.output ≡ output l) × IsSpanOf (Some (record { first = first; last = last })) kept.span
IsLed output (ranged l range) kept = (kept.output ≡ output l) × IsSpanOf (Some range) kept.span

-- a name may come next
abbrev pub takes_name : LeadPlace → Bool
takes_name lead.Direction = true
takes_name lead.Wire = true
takes_name lead.Range = true
takes_name at = false

-- one token more in what a declaration begins with is taken, or it breaks
abbrev pub LeadTakes : {L : Type 0} → (LeadPart L → Partial) → (L → Option Bool) → (L → LeadPlace) → LeadPart L → Lexeme → Option LeadPlace → Led → Type 0
LeadTakes {L} tree output of part t (Some after) new =
    (next : LeadPart L) × (lead_place of next ≡ after) × IsLed output next new
    × (spelled (tree next) ≡ spelled (tree part) ++ t ∷ []) × ¬ Breaks (spelled (tree part)) t
LeadTakes tree output of part t None new = Breaks (spelled (tree part)) t × IsLed output part new

-- a name that is next behind what a declaration begins with is declared, and crowds or not; or none may be next
abbrev pub IsLedBy : List Lexeme → LeadPlace → Option Span → Bool → List ℕ → Type 0
IsLedBy xs at span crowds x =
    (takes_name at ≡ true
    → (range : Option Range) × IsDeclaring xs range × (option_map span_of range ≡ span) × Decides crowds (Crowds xs x))
    × (takes_name at ≡ false → (range : Option Range) → ¬ IsDeclaring xs range)
