-- The grammar of netlist texts, a part of that of structural modules of IEEE 1364-2005 (annex A.1.2, A.1.3, A.2.1
-- and A.4.1). A text is derived by its tree, and each function here is the right-hand side of one production.
use Rattle.std.specs.Prelude.{◌≡◌, ℕ, List, [], ◌∷◌, ◌++◌, Option, Some, None}
use Rattle.std.specs.List.{flat_map}
use Rattle.ncl_reader.specs.declared.keyword.Keyword.TheVariants.{Module, EndModule, Wire, Way as word_of}
use Rattle.ncl_reader.specs.declared.keyword.Way.{Way}
use Rattle.ncl_reader.specs.declared.lexeme.Sign.TheVariants.{LParen, RParen, Comma, Semi, Dot, LBracket, RBracket, Colon}
use Rattle.ncl_reader.specs.Lexemes.{Lexeme, Word, Name, Number, Mark, End}

-- one or more, of which the last has no comma behind it
pub record Row (X : Type 0) : Type 0 where
  pub before : List X
  pub last : X

-- they all
abbrev pub all_of : {X : Type 0} → Row X → List X
all_of row = row.before ++ row.last ∷ []

-- each with a comma behind it
abbrev pub with_commas : {X : Type 0} → (X → List Lexeme) → List X → List Lexeme
with_commas phrase xs = flat_map (λ x. phrase x ++ Mark Comma ∷ []) xs

-- { x "," } x
abbrev pub row_phrase : {X : Type 0} → (X → List Lexeme) → Row X → List Lexeme
row_phrase phrase row = with_commas phrase row.before ++ phrase row.last

-- name
abbrev pub name_phrase : List ℕ → List Lexeme
name_phrase name = Name name ∷ []

-- a direction, alone or with "wire"
pub data Direction : Type 0 where
  Plain : Way → Direction
  Wired : Way → Direction

-- ( "input" | "output" ) [ "wire" ]
abbrev pub direction_phrase : Direction → List Lexeme
direction_phrase (Plain way) = Word (word_of way) ∷ []
direction_phrase (Wired way) = Word (word_of way) ∷ Word Wire ∷ []

-- what a declaration begins with: a direction, or "wire" alone
pub data Lead : Type 0 where
  Gives : Direction → Lead
  Wires : Lead

abbrev pub lead_phrase : Lead → List Lexeme
lead_phrase (Gives direction) = direction_phrase direction
lead_phrase Wires = Word Wire ∷ []

-- the first and the last number of a vector, by their digits
pub record Range : Type 0 where
  pub first : List ℕ
  pub last : List ℕ

-- "[" number ":" number "]"
abbrev pub range_phrase : Range → List Lexeme
range_phrase range = Mark LBracket ∷ Number range.first ∷ Mark Colon ∷ Number range.last ∷ Mark RBracket ∷ []

-- [ range ]
abbrev pub maybe_phrase : Option Range → List Lexeme
maybe_phrase None = []
maybe_phrase (Some range) = range_phrase range

-- what is said of each name of a declaration
pub record Spec (L : Type 0) : Type 0 where
  pub lead : L
  pub range : Option Range

abbrev pub spec_phrase : {L : Type 0} → (L → List Lexeme) → Spec L → List Lexeme
spec_phrase phrase spec = phrase spec.lead ++ maybe_phrase spec.range

-- a declaration of names
pub record Group (L : Type 0) : Type 0 where
  pub spec : Spec L
  pub names : Row (List ℕ)

-- lead [ range ] names
abbrev pub group_phrase : {L : Type 0} → (L → List Lexeme) → Group L → List Lexeme
group_phrase phrase group = spec_phrase phrase group.spec ++ row_phrase name_phrase group.names

-- a net: a name, or the bit of a vector with this number
pub record Net : Type 0 where
  pub name : List ℕ
  pub index : Option (List ℕ)

-- [ "[" number "]" ]
abbrev pub index_phrase : Option (List ℕ) → List Lexeme
index_phrase None = []
index_phrase (Some digits) = Mark LBracket ∷ Number digits ∷ Mark RBracket ∷ []

-- name [ "[" number "]" ]
abbrev pub net_phrase : Net → List Lexeme
net_phrase net = Name net.name ∷ index_phrase net.index

-- a pin, and the net that it is on
pub record Conn : Type 0 where
  pub pin : List ℕ
  pub net : Net

-- "." pin "(" net ")"
abbrev pub conn_phrase : Conn → List Lexeme
conn_phrase conn = Mark Dot ∷ Name conn.pin ∷ Mark LParen ∷ (net_phrase conn.net ++ Mark RParen ∷ [])

-- a declaration of names, or an instance of a cell with its connections
pub data Item : Type 0 where
  Declares : Group Lead → Item
  Joins : (cell name : List ℕ) → Row Conn → Item

-- declaration ";"   or   cell name "(" conns ")" ";"
abbrev pub item_phrase : Item → List Lexeme
item_phrase (Declares group) = group_phrase lead_phrase group ++ Mark Semi ∷ []
item_phrase (Joins cell name conns) =
    Name cell ∷ Name name ∷ Mark LParen ∷ (row_phrase conn_phrase conns ++ Mark RParen ∷ Mark Semi ∷ [])

-- what stands between the parentheses of a header: nothing, names, or declarations. A declaration is a port
-- and the names behind it that have no direction of their own
pub data Listing : Type 0 where
  Empty : Listing
  Names : Row (List ℕ) → Listing
  Ansi : Row (Group Direction) → Listing

-- [ names | declaration { "," declaration } ]
abbrev pub listing_phrase : Listing → List Lexeme
listing_phrase Empty = []
listing_phrase (Names names) = row_phrase name_phrase names
listing_phrase (Ansi groups) = row_phrase (group_phrase direction_phrase) groups

-- [ "(" listing ")" ]
abbrev pub header_phrase : Option Listing → List Lexeme
header_phrase None = []
header_phrase (Some listing) = Mark LParen ∷ (listing_phrase listing ++ Mark RParen ∷ [])

-- the name of the module and its header
pub record Head : Type 0 where
  pub name : List ℕ
  pub ports : Option Listing

-- "module" name [ "(" listing ")" ] ";"
abbrev pub head_phrase : Head → List Lexeme
head_phrase head = Word Module ∷ Name head.name ∷ (header_phrase head.ports ++ Mark Semi ∷ [])

-- a tree of the grammar
pub record Text : Type 0 where
  pub head : Head
  pub items : List Item

-- a head and items
abbrev pub body_phrase : Head → List Item → List Lexeme
body_phrase head items = head_phrase head ++ flat_map item_phrase items

-- head { item } "endmodule", and the end of the text
abbrev pub text_phrase : Text → List Lexeme
text_phrase text = body_phrase text.head text.items ++ Word EndModule ∷ End ∷ []

-- some tree derives the list
abbrev pub IsShaped : List Lexeme → Type 0
IsShaped xs = (text : Text) × (xs ≡ text_phrase text)

-- the list begins some shaped list
abbrev pub BeginsShaped : List Lexeme → Type 0
BeginsShaped xs = (rest : List Lexeme) × IsShaped (xs ++ rest)

-- the declarations in the header
abbrev pub groups_of : Option Listing → List (Group Direction)
groups_of (Some (Ansi groups)) = all_of groups
groups_of ports = []

abbrev pub group_names : {L : Type 0} → Group L → List (List ℕ)
group_names group = all_of group.names

-- the names in the header, in order
abbrev pub names_in : Option Listing → List (List ℕ)
names_in (Some (Names names)) = all_of names
names_in (Some (Ansi groups)) = flat_map group_names (all_of groups)
names_in ports = []

abbrev pub header_of : Head → List (List ℕ)
header_of head = names_in head.ports
