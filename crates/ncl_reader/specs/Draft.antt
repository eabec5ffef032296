-- What is kept of what was read.
use Rattle.std.specs.Prelude.{◌≡◌, ℕ, ◌<◌, List, [], ◌∷◌, ◌++◌, length, IfOk, Option, Some, None, Bool, true, false}
use Rattle.std.specs.List.{flat_map}
use Rattle.std.specs.Str.Parse.{digits_value}
use Rattle.std.specs.declared.result.Result.{Result}
use Rattle.ncl_base.specs.declared.memory.Memory.{Memory}
use Rattle.ncl_gates.specs.Name.{cell_name_of}
use Rattle.ncl_netlist.specs.declared.parts.Parts.{Parts}
use Rattle.ncl_reader.specs.declared.place.Place.{Place}
use Rattle.ncl_reader.specs.declared.place.Place.TheVariants as place
use Rattle.ncl_reader.specs.declared.draft.Draft.{Draft}
use Rattle.ncl_reader.specs.declared.lexeme.Lexeme.{Lexeme as Read}
use Rattle.ncl_reader.specs.Lexemes.{Lexeme, Name}
use Rattle.ncl_reader.specs.Grammar.{Row, all_of, Direction, Lead, Gives, Wires, Range, Spec, Group, group_names, Conn, Listing, Ansi, Head, Item, header_of}
use Rattle.ncl_reader.specs.Forms.{in_ansi, at_declared}
use Rattle.ncl_reader.specs.Vectors.{IsVector}
use Rattle.ncl_reader.specs.Rules.{Breaks}
use Rattle.ncl_reader.specs.Says.{Said, said_of, said_in_header, said_by, joined_in, Joined, AreCellsOf, Says}
use Rattle.ncl_reader.specs.Header.{IsHeader}
use Rattle.ncl_reader.specs.Instance.{AreJoins}
use Rattle.ncl_reader.specs.Lead.{IsLed, IsSaid, direction_output, lead_output}
use Rattle.ncl_reader.specs.Known.{KeepsNames}
use Rattle.ncl_reader.specs.Partial.{LeadPart, leading, naming, going, lead_place, direction_place, word_place, Partial, ItemPart, start, begun, titled, listing, listed, heading, headed, at_item, inside, ended, declaring, celled, named, joining, dotted, pinned, opened, netted, indexing, indexed, picked, joined, closed, spelled}
use Rattle.ncl_reader.specs.Meant.{meant}

-- the header has declarations
abbrev pub is_ansi : Option Listing → Bool
is_ansi (Some (Ansi groups)) = true
is_ansi ports = false

-- what a declaration of an item says of names: `wire` says nothing
abbrev pub said_with : Spec Lead → List (List ℕ) → List Said
said_with spec names = by_lead spec.lead
  where
    by_lead : Lead → List Said
    by_lead (Gives direction) = said_of direction spec.range names
    by_lead Wires = []

-- the header has declarations or not; these names stand in it, and this is said of them; and these are the cells
pub record IsRead (draft : Draft) (has_declarations : Bool) (names : List (List ℕ)) (said : List Said) (instances : List Joined) : Type 0 where
  pub ansi : draft.ansi ≡ has_declarations
  pub header : IsHeader draft.header names said
  pub cells : AreCellsOf instances draft.cells.items

-- no ports, no cells
abbrev pub IsBare : Draft → Type 0
IsBare draft = IsRead draft false [] [] []

-- these names stand in the header
abbrev pub IsListed : Draft → List (List ℕ) → Type 0
IsListed draft names = IsRead draft false names [] []

-- these declarations stand in the header
abbrev pub IsGrouped : Draft → List (Group Direction) → Type 0
IsGrouped draft groups = IsRead draft true (flat_map group_names groups) (flat_map said_in_header groups) []

-- and names of one more
abbrev pub IsGroupedWith : Draft → List (Group Direction) → Spec Direction → List (List ℕ) → Type 0
IsGroupedWith draft groups spec names =
    IsRead draft true (flat_map group_names groups ++ names)
    (flat_map said_in_header groups ++ said_of spec.lead spec.range names) []

-- a head and items
abbrev pub IsBody : Draft → Head → List Item → Type 0
IsBody draft head items =
    (draft.title.now ≡ head.name)
    × IsRead draft (is_ansi head.ports) (header_of head) (said_by (record { head = head; items = items })) (flat_map joined_in items)

-- and names of a declaration
abbrev pub IsBodyWith : Draft → Head → List Item → Spec Lead → List (List ℕ) → Type 0
IsBodyWith draft head items spec names =
    (draft.title.now ≡ head.name)
    × IsRead draft (is_ansi head.ports) (header_of head) (said_by (record { head = head; items = items }) ++ said_with spec names)
    (flat_map joined_in items)

-- a declaration that gives a direction stands behind a header without declarations
abbrev pub IsEarly : Draft → Type 0
IsEarly draft = (output : Bool) → draft.lead.output ≡ Some output → draft.ansi ≡ false

-- and a closed instance
abbrev pub IsBodyAnd : Draft → Head → List Item → Joined → Type 0
IsBodyAnd draft head items one =
    (draft.title.now ≡ head.name)
    × IsRead draft (is_ansi head.ports) (header_of head) (said_by (record { head = head; items = items }))
    (flat_map joined_in items ++ one ∷ [])

-- the cell's name and the name of the instance that is read
abbrev pub cell_in : Draft → List ℕ
cell_in draft = cell_name_of draft.instance.kind

abbrev pub name_in : Draft → List ℕ
name_in draft = draft.instance.name.now

-- of an instance these connections and this part stand
abbrev pub IsJoining : Draft → Partial → (List Conn → ItemPart) → Type 0
IsJoining draft p part =
    (head : Head) × (items : List Item) × (conns : List Conn) × (p ≡ inside head items (part conns))
    × IsBody draft head items × AreJoins conns draft.instance.joins.items

-- and one connection more
abbrev pub IsJoined : Draft → Partial → (List Conn → Conn → ItemPart) → Type 0
IsJoined draft p part =
    (head : Head) × (items : List Item) × (conns : List Conn) × (conn : Conn) × (p ≡ inside head items (part conns conn))
    × IsBody draft head items × AreJoins (conns ++ conn ∷ []) draft.instance.joins.items

-- and the net of a connection, which is a vector
abbrev pub IsIndexing : Draft → Partial → (List Conn → ItemPart) → Type 0
IsIndexing draft p part = IsJoining draft p part × ((range : Range) × IsVector (spelled p) draft.instance.net.now range)

-- and the number of a bit
abbrev pub IsIndexed : Draft → Partial → (List Conn → List ℕ → ItemPart) → Type 0
IsIndexed draft p part =
    (digits : List ℕ) × IsJoining draft p (λ conns. part conns digits) × (draft.instance.index ≡ digits_value 10 digits)

-- the part of the tree that stands before a place, and what is kept of it
abbrev pub HoldsBy : Place → Draft → Partial → Type 0
HoldsBy place.Module draft p = (p ≡ start) × IsBare draft
HoldsBy place.ModuleName draft p = (p ≡ begun) × IsBare draft
HoldsBy place.AfterModuleName draft p = (p ≡ titled draft.title.now) × IsBare draft
HoldsBy place.FirstPort draft p = (p ≡ listing draft.title.now []) × IsBare draft
HoldsBy place.Port draft p =
    (names : List (List ℕ)) × (p ≡ listing draft.title.now names) × (0 < length names) × IsListed draft names
HoldsBy place.AfterPort draft p =
    (names : List (List ℕ)) × (last : List ℕ) × (p ≡ listed draft.title.now names last)
    × IsListed draft (names ++ last ∷ [])
HoldsBy (place.HeaderLead at) draft p =
    (groups : List (Group Direction)) × (part : LeadPart Direction) × (p ≡ heading draft.title.now groups (leading part))
    × (lead_place direction_place part ≡ at) × IsLed direction_output part draft.lead × IsGrouped draft groups
HoldsBy place.HeaderName draft p =
    (groups : List (Group Direction)) × (spec : Spec Direction) × (row : Row (List ℕ))
    × (p ≡ heading draft.title.now groups (going spec row)) × IsSaid direction_output spec draft.lead
    × IsGroupedWith draft groups spec (all_of row)
HoldsBy place.AfterHeaderName draft p =
    (groups : List (Group Direction)) × (spec : Spec Direction) × (names : List (List ℕ)) × (last : List ℕ)
    × (p ≡ heading draft.title.now groups (naming spec names last)) × IsSaid direction_output spec draft.lead
    × IsGroupedWith draft groups spec (names ++ last ∷ [])
HoldsBy place.AfterPorts draft p =
    (ports : Listing) × (p ≡ headed draft.title.now ports) × IsBody draft (record { name = draft.title.now; ports = Some ports }) []
HoldsBy place.Item draft p = (head : Head) × (items : List Item) × (p ≡ at_item head items) × IsBody draft head items
HoldsBy (place.Lead at) draft p =
    (head : Head) × (items : List Item) × (part : LeadPart Lead) × (p ≡ inside head items (declaring (leading part)))
    × (lead_place word_place part ≡ at) × IsLed lead_output part draft.lead × IsEarly draft × IsBody draft head items
HoldsBy place.Declared draft p =
    (head : Head) × (items : List Item) × (spec : Spec Lead) × (row : Row (List ℕ))
    × (p ≡ inside head items (declaring (going spec row))) × IsSaid lead_output spec draft.lead × IsEarly draft
    × IsBodyWith draft head items spec (all_of row)
HoldsBy place.AfterDeclared draft p =
    (head : Head) × (items : List Item) × (spec : Spec Lead) × (names : List (List ℕ)) × (last : List ℕ)
    × (p ≡ inside head items (declaring (naming spec names last))) × IsSaid lead_output spec draft.lead × IsEarly draft
    × IsBodyWith draft head items spec (names ++ last ∷ [])
HoldsBy place.InstanceName draft p =
    (head : Head) × (items : List Item) × (p ≡ inside head items (celled (cell_in draft)))
    × IsBody draft head items × AreJoins [] draft.instance.joins.items
HoldsBy place.Connections draft p =
    (head : Head) × (items : List Item) × (p ≡ inside head items (named (cell_in draft) (name_in draft)))
    × IsBody draft head items × AreJoins [] draft.instance.joins.items
HoldsBy place.Connection draft p = IsJoining draft p (λ conns. joining (cell_in draft) (name_in draft) conns)
HoldsBy place.Pin draft p = IsJoining draft p (λ conns. dotted (cell_in draft) (name_in draft) conns)
HoldsBy place.PinNet draft p = IsJoining draft p (λ conns. pinned (cell_in draft) (name_in draft) conns draft.instance.pin.now)
HoldsBy place.Net draft p = IsJoining draft p (λ conns. opened (cell_in draft) (name_in draft) conns draft.instance.pin.now)
HoldsBy place.AfterNet draft p =
    IsJoining draft p (λ conns. netted (cell_in draft) (name_in draft) conns draft.instance.pin.now draft.instance.net.now)
HoldsBy place.Index draft p =
    IsIndexing draft p (λ conns. indexing (cell_in draft) (name_in draft) conns draft.instance.pin.now draft.instance.net.now)
HoldsBy place.AfterIndex draft p =
    IsIndexed draft p (λ conns digits. indexed (cell_in draft) (name_in draft) conns draft.instance.pin.now draft.instance.net.now digits)
HoldsBy place.NetEnd draft p =
    IsIndexed draft p (λ conns digits. picked (cell_in draft) (name_in draft) conns draft.instance.pin.now draft.instance.net.now digits)
HoldsBy place.AfterConnection draft p = IsJoined draft p (λ conns conn. joined (cell_in draft) (name_in draft) conns conn)
HoldsBy place.AfterInstance draft p =
    (head : Head) × (items : List Item) × (conns : List Conn) × (conn : Conn)
    × (p ≡ inside head items (closed (cell_in draft) (name_in draft) conns conn))
    × IsBodyAnd draft head items (record { cell = cell_in draft; name = name_in draft; conns = conns ++ conn ∷ [] })
HoldsBy place.End draft p = (head : Head) × (items : List Item) × (p ≡ ended head items) × IsBody draft head items

-- and what is kept of the names that stand
abbrev pub HoldsAt : Place → Draft → Partial → Type 0
HoldsAt at draft p = KeepsNames draft.known (spelled p) × HoldsBy at draft p

-- the parts are what the head and the items say
abbrev pub SaysAt : Partial → Parts → Type 0
SaysAt p parts =
    (head : Head) × (items : List Item) × (p ≡ ended head items) × Says (record { head = head; items = items }) parts

-- a token is taken: it breaks nothing, and what stands with it is kept
pub record Takes (p : Partial) (t : Lexeme) (after : Place) (draft : Draft) : Type 0 where
  pub tree : Partial
  pub holds : HoldsAt after draft tree
  pub grows : spelled tree ≡ spelled p ++ t ∷ []
  pub unbroken : Breaks (spelled p) t → ⊥

-- a token is taken, or it breaks and what was kept is kept
abbrev pub TakesOrBreaks : Place → Partial → Lexeme → Option Place → Draft → Type 0
TakesOrBreaks at p t (Some after) new = Takes p t after new
TakesOrBreaks at p t None new = Breaks (spelled p) t × HoldsAt at new p

-- one step of the reader
abbrev pub StepsAt : Place → Draft → Lexeme → Result (Option Place) Memory → Draft → Type 0
StepsAt at old t result new = (p : Partial) → HoldsAt at old p → IfOk result (λ after. TakesOrBreaks at p t after new)

abbrev pub Steps : Place → Draft → Read → Result (Option Place) Memory → Draft → Type 0
Steps at old read result new = StepsAt at old (meant read) result new

-- a name of a declaration of the header is taken
abbrev pub IsHeadedNext : Draft → List (Group Direction) → Spec Direction → List (List ℕ) → List ℕ → Draft → Type 0
IsHeadedNext old groups spec names x new =
    (new.title.now ≡ old.title.now) × KeepsNames new.known (in_ansi old.title.now groups spec names ++ Name x ∷ [])
    × IsSaid direction_output spec new.lead × IsGroupedWith new groups spec (names ++ x ∷ [])

-- so is one of a declaration of an item
abbrev pub IsDeclaredNext : Head → List Item → Spec Lead → List (List ℕ) → List ℕ → Draft → Type 0
IsDeclaredNext head items spec names x new =
    KeepsNames new.known (at_declared head items spec names ++ Name x ∷ [])
    × IsSaid lead_output spec new.lead × IsEarly new × IsBodyWith new head items spec (names ++ x ∷ [])
