-- Trees of which a part stands, and the lexemes of that part.
use Rattle.std.specs.Prelude.{ℕ, List, [], ◌∷◌, ◌++◌}
use Rattle.ncl_reader.specs.declared.keyword.Keyword.TheVariants.{Module, EndModule}
use Rattle.ncl_reader.specs.declared.lexeme.Sign.TheVariants.{LParen, RParen, Comma, Dot, LBracket, RBracket, Colon}
use Rattle.ncl_reader.specs.declared.place.Place.{Place}
use Rattle.ncl_reader.specs.declared.place.Place.TheVariants as place
use Rattle.ncl_reader.specs.declared.place.LeadPlace.{LeadPlace}
use Rattle.ncl_reader.specs.declared.place.LeadPlace.TheVariants as lead
use Rattle.ncl_reader.specs.Lexemes.{Lexeme, Word, Name, Number, Mark}
use Rattle.ncl_reader.specs.Grammar.{Row, Direction, Plain, Wired, direction_phrase, Lead, Gives, Wires, lead_phrase, Range, range_phrase, Spec, spec_phrase, Group, group_phrase, Conn, Listing, listing_phrase, Item, Head, with_commas, name_phrase, conn_phrase, row_phrase, body_phrase, text_phrase}

-- what stands of what a declaration begins with
pub data LeadPart (L : Type 0) : Type 0 where
  led : L → LeadPart L
  bracketed : L → LeadPart L
  firsted : L → List ℕ → LeadPart L
  coloned : L → List ℕ → LeadPart L
  lasted : L → List ℕ → List ℕ → LeadPart L
  ranged : L → Range → LeadPart L

-- what stands of a declaration: no name yet, names of which the last has no comma, or names with commas
pub data GroupPart (L : Type 0) : Type 0 where
  leading : LeadPart L → GroupPart L
  naming : Spec L → List (List ℕ) → List ℕ → GroupPart L
  going : Spec L → Row (List ℕ) → GroupPart L

-- what of an item stands
pub data ItemPart : Type 0 where
  declaring : GroupPart Lead → ItemPart
  celled : List ℕ → ItemPart
  named : (cell name : List ℕ) → ItemPart
  joining : (cell name : List ℕ) → List Conn → ItemPart
  dotted : (cell name : List ℕ) → List Conn → ItemPart
  pinned : (cell name : List ℕ) → List Conn → List ℕ → ItemPart
  opened : (cell name : List ℕ) → List Conn → List ℕ → ItemPart
  netted : (cell name : List ℕ) → List Conn → (pin net : List ℕ) → ItemPart
  indexing : (cell name : List ℕ) → List Conn → (pin net : List ℕ) → ItemPart
  indexed : (cell name : List ℕ) → List Conn → (pin net digits : List ℕ) → ItemPart
  picked : (cell name : List ℕ) → List Conn → (pin net digits : List ℕ) → ItemPart
  joined : (cell name : List ℕ) → List Conn → Conn → ItemPart
  closed : (cell name : List ℕ) → List Conn → Conn → ItemPart

-- what of a text stands
pub data Partial : Type 0 where
  start : Partial
  begun : Partial
  titled : List ℕ → Partial
  listing : List ℕ → List (List ℕ) → Partial
  listed : List ℕ → List (List ℕ) → List ℕ → Partial
  heading : List ℕ → List (Group Direction) → GroupPart Direction → Partial
  headed : List ℕ → Listing → Partial
  at_item : Head → List Item → Partial
  inside : Head → List Item → ItemPart → Partial
  ended : Head → List Item → Partial
  done : Head → List Item → Partial

-- the lexemes of a part of what a declaration begins with
abbrev pub lead_spelled : {L : Type 0} → (L → List Lexeme) → LeadPart L → List Lexeme
lead_spelled phrase (led l) = phrase l
lead_spelled phrase (bracketed l) = phrase l ++ Mark LBracket ∷ []
lead_spelled phrase (firsted l first) = phrase l ++ Mark LBracket ∷ Number first ∷ []
lead_spelled phrase (coloned l first) = phrase l ++ Mark LBracket ∷ Number first ∷ Mark Colon ∷ []
lead_spelled phrase (lasted l first last) = phrase l ++ Mark LBracket ∷ Number first ∷ Mark Colon ∷ Number last ∷ []
lead_spelled phrase (ranged l range) = phrase l ++ range_phrase range

-- the lexemes of a part of a declaration
abbrev pub group_spelled : {L : Type 0} → (L → List Lexeme) → GroupPart L → List Lexeme
group_spelled phrase (leading part) = lead_spelled phrase part
group_spelled phrase (naming spec names last) = spec_phrase phrase spec ++ (with_commas name_phrase names ++ Name last ∷ [])
group_spelled phrase (going spec names) = spec_phrase phrase spec ++ (row_phrase name_phrase names ++ Mark Comma ∷ [])

-- the lexemes of an instance up to a part of a connection
abbrev pub conn_spelled : List ℕ → List ℕ → List Conn → List Lexeme → List Lexeme
conn_spelled cell name conns part = Name cell ∷ Name name ∷ Mark LParen ∷ (with_commas conn_phrase conns ++ part)

-- the lexemes of a part of an item
abbrev pub part_spelled : ItemPart → List Lexeme
part_spelled (declaring part) = group_spelled lead_phrase part
part_spelled (celled cell) = Name cell ∷ []
part_spelled (named cell name) = Name cell ∷ Name name ∷ []
part_spelled (joining cell name conns) = Name cell ∷ Name name ∷ Mark LParen ∷ with_commas conn_phrase conns
part_spelled (dotted cell name conns) = conn_spelled cell name conns (Mark Dot ∷ [])
part_spelled (pinned cell name conns pin) = conn_spelled cell name conns (Mark Dot ∷ Name pin ∷ [])
part_spelled (opened cell name conns pin) = conn_spelled cell name conns (Mark Dot ∷ Name pin ∷ Mark LParen ∷ [])
part_spelled (netted cell name conns pin net) =
    conn_spelled cell name conns (Mark Dot ∷ Name pin ∷ Mark LParen ∷ Name net ∷ [])
part_spelled (indexing cell name conns pin net) =
    conn_spelled cell name conns (Mark Dot ∷ Name pin ∷ Mark LParen ∷ Name net ∷ Mark LBracket ∷ [])
part_spelled (indexed cell name conns pin net digits) =
    conn_spelled cell name conns (Mark Dot ∷ Name pin ∷ Mark LParen ∷ Name net ∷ Mark LBracket ∷ Number digits ∷ [])
part_spelled (picked cell name conns pin net digits) =
    conn_spelled cell name conns
    (Mark Dot ∷ Name pin ∷ Mark LParen ∷ Name net ∷ Mark LBracket ∷ Number digits ∷ Mark RBracket ∷ [])
part_spelled (joined cell name conns conn) = conn_spelled cell name conns (conn_phrase conn)
part_spelled (closed cell name conns conn) =
    Name cell ∷ Name name ∷ Mark LParen ∷ (row_phrase conn_phrase (record { before = conns; last = conn }) ++ Mark RParen ∷ [])

-- the lexemes of a header up to a part of it
abbrev pub header_spelled : List ℕ → List Lexeme → List Lexeme
header_spelled name part = Word Module ∷ Name name ∷ Mark LParen ∷ part

abbrev pub spelled : Partial → List Lexeme
spelled start = []
spelled begun = Word Module ∷ []
spelled (titled name) = Word Module ∷ Name name ∷ []
spelled (listing name names) = header_spelled name (with_commas name_phrase names)
spelled (listed name names last) = header_spelled name (with_commas name_phrase names ++ Name last ∷ [])
spelled (heading name groups part) =
    header_spelled name (with_commas (group_phrase direction_phrase) groups ++ group_spelled direction_phrase part)
spelled (headed name ports) = header_spelled name (listing_phrase ports ++ Mark RParen ∷ [])
spelled (at_item head items) = body_phrase head items
spelled (inside head items part) = body_phrase head items ++ part_spelled part
spelled (ended head items) = body_phrase head items ++ Word EndModule ∷ []
spelled (done head items) = text_phrase (record { head = head; items = items })

-- what may come next behind a direction, and behind what an item begins with
abbrev pub direction_place : Direction → LeadPlace
direction_place (Plain way) = lead.Direction
direction_place (Wired way) = lead.Wire

abbrev pub word_place : Lead → LeadPlace
word_place (Gives direction) = direction_place direction
word_place Wires = lead.Wire

abbrev pub lead_place : {L : Type 0} → (L → LeadPlace) → LeadPart L → LeadPlace
lead_place of (led l) = of l
lead_place of (bracketed l) = lead.First
lead_place of (firsted l first) = lead.Colon
lead_place of (coloned l first) = lead.Last
lead_place of (lasted l first last) = lead.Close
lead_place of (ranged l range) = lead.Range

abbrev pub part_place : ItemPart → Place
part_place (declaring (leading part)) = place.Lead (lead_place word_place part)
part_place (declaring (naming spec names last)) = place.AfterDeclared
part_place (declaring (going spec names)) = place.Declared
part_place (celled cell) = place.InstanceName
part_place (named cell name) = place.Connections
part_place (joining cell name conns) = place.Connection
part_place (dotted cell name conns) = place.Pin
part_place (pinned cell name conns pin) = place.PinNet
part_place (opened cell name conns pin) = place.Net
part_place (netted cell name conns pin net) = place.AfterNet
part_place (indexing cell name conns pin net) = place.Index
part_place (indexed cell name conns pin net digits) = place.AfterIndex
part_place (picked cell name conns pin net digits) = place.NetEnd
part_place (joined cell name conns conn) = place.AfterConnection
part_place (closed cell name conns conn) = place.AfterInstance

abbrev pub place_of : Partial → Place
place_of start = place.Module
place_of begun = place.ModuleName
place_of (titled name) = place.AfterModuleName
place_of (listing name []) = place.FirstPort
place_of (listing name (x ∷ names)) = place.Port
place_of (listed name names last) = place.AfterPort
place_of (heading name groups (leading part)) = place.HeaderLead (lead_place direction_place part)
place_of (heading name groups (naming spec names last)) = place.AfterHeaderName
place_of (heading name groups (going spec names)) = place.HeaderName
place_of (headed name ports) = place.AfterPorts
place_of (at_item head items) = place.Item
place_of (inside head items part) = part_place part
place_of (ended head items) = place.End
place_of (done head items) = place.End
