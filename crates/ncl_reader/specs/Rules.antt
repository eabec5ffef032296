-- The rules beside the grammar, each at the token that breaks it.
use Rattle.std.specs.Prelude.{◌≡◌, ◌≢◌, ℕ, ◌+◌, ◌*◌, ◌<◌, List, [], ◌∷◌, ◌++◌, ◌⊎◌, map, length, sum, Contains, Option, Some, None}
use Rattle.std.specs.Option.{option_map}
use Rattle.std.specs.List.{flat_map}
use Rattle.std.specs.Str.Parse.{digits_value}
use Rattle.ncl_gates.specs.declared.cell_kind.CellKind.{CellKind}
use Rattle.ncl_gates.specs.Name.{cell_name_of}
use Rattle.ncl_gates.specs.Cell.{pins_of}
use Rattle.ncl_reader.specs.declared.keyword.Keyword.TheVariants.{EndModule, Way as word_of}
use Rattle.ncl_reader.specs.declared.lexeme.Sign.TheVariants.{RParen, LBracket}
use Rattle.ncl_reader.specs.Lexemes.{Lexeme, Word, Name, Number, Mark}
use Rattle.ncl_reader.specs.Grammar.{Row, all_of, Direction, Lead, Gives, Wires, Range, Spec, Group, group_names, Conn, Item, Declares, Joins, Ansi, Head, groups_of, header_of, body_phrase, BeginsShaped}
use Rattle.ncl_reader.specs.Forms.{in_header, in_ansi, at_declared, at_pin, at_close, IsDeclaring, IsAtLast, IsAtIndex, IsBehindNet}
use Rattle.ncl_reader.specs.Vectors.{span_of, width, range_width, Covers, bit_name, IsTooLarge, MOST_VECTOR_BITS, MOST_PORT_BITS, Stands, IsDeclared, IsUsed, IsVector, IsBit}

-- the names that an item gives a direction: `wire` gives none
abbrev pub directed_in : Item → List (List ℕ)
directed_in (Declares group) = by_lead group.spec.lead (group_names group)
  where
    by_lead : Lead → List (List ℕ) → List (List ℕ)
    by_lead (Gives direction) names = names
    by_lead Wires names = []
directed_in (Joins cell name conns) = []

-- the names with a direction: those of the declarations in the header, and those of items
abbrev pub directed_by : Head → List Item → List (List ℕ)
directed_by head items = flat_map group_names (groups_of head.ports) ++ flat_map directed_in items

-- the bits of the vectors of a declaration in the header, and of a declaration of an item that gives a direction
abbrev pub group_bits : {L : Type 0} → Group L → ℕ
group_bits group = range_width group.spec.range * length (group_names group)

abbrev pub item_bits : Item → ℕ
item_bits (Declares group) = by_lead group.spec.lead (group_bits group)
  where
    by_lead : Lead → ℕ → ℕ
    by_lead (Gives direction) bits = bits
    by_lead Wires bits = 0
item_bits (Joins cell name conns) = 0

-- the name stands in the header already
pub record RepeatsPort (before : List Lexeme) (x : List ℕ) : Type 0 where
  pub title : List ℕ
  pub names : List (List ℕ)
  pub is : before ≡ in_header title names
  pub stands : Contains names x

-- so it does in a header of declarations
pub record RepeatsHeaded (before : List Lexeme) (x : List ℕ) : Type 0 where
  pub title : List ℕ
  pub groups : List (Group Direction)
  pub spec : Spec Direction
  pub names : List (List ℕ)
  pub is : before ≡ in_ansi title groups spec names
  pub stands : Contains (flat_map group_names groups ++ names) x

-- the name is to have a direction, and isn't in the header or has one already
pub record Misdirects (before : List Lexeme) (x : List ℕ) : Type 0 where
  pub head : Head
  pub items : List Item
  pub direction : Direction
  pub range : Option Range
  pub names : List (List ℕ)
  pub is : before ≡ at_declared head items (record { lead = Gives direction; range = range }) names
  pub breaks : ¬ Contains (header_of head) x ⊎ Contains (directed_by head items ++ names) x

-- an item is to give a direction, and the header gave them
pub record DirectsLate (before : List Lexeme) : Type 0 where
  pub head : Head
  pub items : List Item
  pub is : before ≡ body_phrase head items
  pub groups : Row (Group Direction)
  pub ansi : head.ports ≡ Some (Ansi groups)

-- a name of the header has no direction, and no item is to follow
pub record LeavesPort (before : List Lexeme) : Type 0 where
  pub head : Head
  pub items : List Item
  pub is : before ≡ body_phrase head items
  pub port : List ℕ
  pub stands : Contains (header_of head) port
  pub undirected : ¬ Contains (directed_by head items) port

-- no cell has the name
pub record NamesNoCell (before : List Lexeme) (x : List ℕ) : Type 0 where
  pub head : Head
  pub items : List Item
  pub is : before ≡ body_phrase head items
  pub none : (kind : CellKind) → cell_name_of kind ≢ x

-- the cell has no pin of the name, or it is joined already
pub record Misjoins (before : List Lexeme) (x : List ℕ) : Type 0 where
  pub head : Head
  pub items : List Item
  pub kind : CellKind
  pub name : List ℕ
  pub conns : List Conn
  pub is : before ≡ at_pin head items (cell_name_of kind) name conns
  pub breaks : ¬ Contains (pins_of kind) x ⊎ Contains (map (λ (c : Conn). c.pin) conns) x

-- a pin of the cell isn't joined, and the instance is to end
pub record LeavesPin (before : List Lexeme) : Type 0 where
  pub head : Head
  pub items : List Item
  pub kind : CellKind
  pub name : List ℕ
  pub conns : Row Conn
  pub is : before ≡ at_close head items (cell_name_of kind) name conns
  pub pin : List ℕ
  pub stands : Contains (pins_of kind) pin
  pub unjoined : ¬ Contains (map (λ (c : Conn). c.pin) (all_of conns)) pin

-- a range has too many bits
abbrev pub IsTooLong : List Lexeme → List ℕ → Type 0
IsTooLong before last =
    (first : List ℕ) × IsAtLast before first
    × (MOST_VECTOR_BITS < width (record { first = digits_value 10 first; last = digits_value 10 last }))

-- a vector has no bit with the number
abbrev pub IsOutside : List Lexeme → List ℕ → Type 0
IsOutside before digits =
    (net : List ℕ) × (range : Range) × IsAtIndex before net × IsVector before net range
    × ¬ Covers (span_of range) (digits_value 10 digits)

-- what is no vector has no bits, and a vector is on a pin by a bit alone
abbrev pub HasNoBits : List Lexeme → Type 0
HasNoBits before = (net : List ℕ) × IsBehindNet before net × ((range : Range) → ¬ IsVector before net range)

abbrev pub LacksIndex : List Lexeme → Type 0
LacksIndex before = (net : List ℕ) × (range : Range) × IsBehindNet before net × IsVector before net range

-- the name is declared with another range, or with a range where there was none or none where there was one; or
-- a connection used it before it is declared with a range
abbrev pub Redeclares : List Lexeme → List ℕ → Type 0
Redeclares before x =
    (range : Option Range) × IsDeclaring before range
    × (((other : Option Range) × IsDeclared before x other × (option_map span_of other ≢ option_map span_of range))
    ⊎ ((range ≢ None) × IsUsed before x))

-- the name is that of a bit of a vector, or a bit of the vector that is declared has a name that stands
abbrev pub Clashes : List Lexeme → List ℕ → Type 0
Clashes before x =
    IsBit before x
    ⊎ ((range : Range) × (k : ℕ) × IsDeclaring before (Some range) × Covers (span_of range) k
    × Stands before (bit_name x k))

-- a port of the header, or one that an item gives its direction, makes the bits of ports too many
pub record CrowdsHeader (before : List Lexeme) (x : List ℕ) : Type 0 where
  pub title : List ℕ
  pub groups : List (Group Direction)
  pub direction : Direction
  pub range : Range
  pub names : List (List ℕ)
  pub is : before ≡ in_ansi title groups (record { lead = direction; range = Some range }) names
  pub new : ¬ Contains (flat_map group_names groups ++ names) x
  pub many : MOST_PORT_BITS < sum (map group_bits groups) + width (span_of range) * (length names + 1)

pub record CrowdsItems (before : List Lexeme) (x : List ℕ) : Type 0 where
  pub head : Head
  pub items : List Item
  pub direction : Direction
  pub range : Range
  pub names : List (List ℕ)
  pub is : before ≡ at_declared head items (record { lead = Gives direction; range = Some range }) names
  pub stands : Contains (header_of head) x
  pub new : ¬ Contains (directed_by head items ++ names) x
  pub many : MOST_PORT_BITS < sum (map item_bits items) + width (span_of range) * (length names + 1)

abbrev pub Crowds : List Lexeme → List ℕ → Type 0
Crowds before x = CrowdsHeader before x ⊎ CrowdsItems before x

-- the token breaks a rule: which one can be asked, what stands before it tells
abbrev pub BreaksRule : List Lexeme → Lexeme → Type 0
BreaksRule before (Name x) =
    RepeatsPort before x ⊎ (RepeatsHeaded before x ⊎ (Misdirects before x ⊎ (NamesNoCell before x ⊎ (Misjoins before x
    ⊎ (Redeclares before x ⊎ (Clashes before x ⊎ Crowds before x))))))
BreaksRule before (Word EndModule) = LeavesPort before
BreaksRule before (Word (word_of way)) = DirectsLate before
BreaksRule before (Number digits) = IsTooLarge digits ⊎ (IsTooLong before digits ⊎ IsOutside before digits)
BreaksRule before (Mark LBracket) = HasNoBits before
BreaksRule before (Mark RParen) = LacksIndex before ⊎ LeavesPin before
BreaksRule before t = ⊥

-- the tokens before it begin a shaped list, and those up to it don't; or it breaks a rule
abbrev pub Breaks : List Lexeme → Lexeme → Type 0
Breaks before t = (BeginsShaped before × ¬ BeginsShaped (before ++ t ∷ [])) ⊎ BreaksRule before t

-- no token breaks
abbrev pub NoneBreaks : List Lexeme → Type 0
NoneBreaks xs =
    (before : List Lexeme) (t : Lexeme) (after : List Lexeme) → xs ≡ before ++ t ∷ after → ¬ Breaks before t
