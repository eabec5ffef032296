-- What stands before a token, by the productions up to one place.
use Rattle.std.specs.Prelude.{◌≡◌, ℕ, List, [], ◌∷◌, ◌++◌, Option, ◌⊎◌}
use Rattle.ncl_reader.specs.declared.keyword.Keyword.TheVariants.{Module}
use Rattle.ncl_reader.specs.declared.lexeme.Sign.TheVariants.{LParen, Dot, LBracket, Colon}
use Rattle.ncl_reader.specs.Lexemes.{Lexeme, Word, Name, Number, Mark}
use Rattle.ncl_reader.specs.Grammar.{with_commas, row_phrase, name_phrase, conn_phrase, Direction, direction_phrase, Lead, lead_phrase, Range, Spec, spec_phrase, Group, group_phrase, body_phrase, Head, Item, Conn, Row}

-- "module" name "(" and these names, each with a comma
abbrev pub in_header : List ℕ → List (List ℕ) → List Lexeme
in_header name names = Word Module ∷ Name name ∷ Mark LParen ∷ with_commas name_phrase names

-- "module" name "(", declarations, each with a comma, and what one more begins with and these names of it, each
-- with a comma
abbrev pub in_ansi : List ℕ → List (Group Direction) → Spec Direction → List (List ℕ) → List Lexeme
in_ansi name groups spec names =
    Word Module ∷ Name name ∷ Mark LParen
    ∷ (with_commas (group_phrase direction_phrase) groups
    ++ (spec_phrase direction_phrase spec ++ with_commas name_phrase names))

-- a head and items, and what a declaration begins with and these names of it, each with a comma
abbrev pub at_declared : Head → List Item → Spec Lead → List (List ℕ) → List Lexeme
at_declared head items spec names =
    body_phrase head items ++ (spec_phrase lead_phrase spec ++ with_commas name_phrase names)

-- the name of a cell, the name of an instance, and what stands in its parentheses
abbrev pub in_instance : Head → List Item → List ℕ → List ℕ → List Lexeme → List Lexeme
in_instance head items cell name inside =
    body_phrase head items ++ Name cell ∷ Name name ∷ Mark LParen ∷ inside

-- connections, each with a comma
abbrev pub at_conn : Head → List Item → List ℕ → List ℕ → List Conn → List Lexeme
at_conn head items cell name conns = in_instance head items cell name (with_commas conn_phrase conns)

-- and a dot
abbrev pub at_pin : Head → List Item → List ℕ → List ℕ → List Conn → List Lexeme
at_pin head items cell name conns =
    in_instance head items cell name (with_commas conn_phrase conns ++ Mark Dot ∷ [])

-- and a pin's name and a parenthesis
abbrev pub at_net : Head → List Item → List ℕ → List ℕ → List Conn → List ℕ → List Lexeme
at_net head items cell name conns pin =
    in_instance head items cell name (with_commas conn_phrase conns ++ Mark Dot ∷ Name pin ∷ Mark LParen ∷ [])

-- and a net's name
abbrev pub behind_net : Head → List Item → List ℕ → List ℕ → List Conn → List ℕ → List ℕ → List Lexeme
behind_net head items cell name conns pin net =
    in_instance head items cell name
    (with_commas conn_phrase conns ++ Mark Dot ∷ Name pin ∷ Mark LParen ∷ Name net ∷ [])

-- and a bracket
abbrev pub at_index : Head → List Item → List ℕ → List ℕ → List Conn → List ℕ → List ℕ → List Lexeme
at_index head items cell name conns pin net =
    in_instance head items cell name
    (with_commas conn_phrase conns ++ Mark Dot ∷ Name pin ∷ Mark LParen ∷ Name net ∷ Mark LBracket ∷ [])

-- connections, the last without a comma
abbrev pub at_close : Head → List Item → List ℕ → List ℕ → Row Conn → List Lexeme
at_close head items cell name conns =
    in_instance head items cell name (row_phrase conn_phrase conns)

-- what may come next: an item, the dot of a connection, the name of a pin, the net of a connection, its index in
-- brackets, the number of it, or what ends the connections
abbrev pub IsAtItem : List Lexeme → Type 0
IsAtItem before = (head : Head) × (items : List Item) × (before ≡ body_phrase head items)

abbrev pub IsAtConn : List Lexeme → Type 0
IsAtConn before =
    (head : Head) × (items : List Item) × (cell : List ℕ) × (name : List ℕ) × (conns : List Conn)
    × (before ≡ at_conn head items cell name conns)

abbrev pub IsAtPin : List Lexeme → Type 0
IsAtPin before =
    (head : Head) × (items : List Item) × (cell : List ℕ) × (name : List ℕ) × (conns : List Conn)
    × (before ≡ at_pin head items cell name conns)

abbrev pub IsAtNet : List Lexeme → Type 0
IsAtNet before =
    (head : Head) × (items : List Item) × (cell : List ℕ) × (name : List ℕ) × (conns : List Conn) × (pin : List ℕ)
    × (before ≡ at_net head items cell name conns pin)

abbrev pub IsBehindNet : List Lexeme → List ℕ → Type 0
IsBehindNet before net =
    (head : Head) × (items : List Item) × (cell : List ℕ) × (name : List ℕ) × (conns : List Conn) × (pin : List ℕ)
    × (before ≡ behind_net head items cell name conns pin net)

abbrev pub IsAtIndex : List Lexeme → List ℕ → Type 0
IsAtIndex before net =
    (head : Head) × (items : List Item) × (cell : List ℕ) × (name : List ℕ) × (conns : List Conn) × (pin : List ℕ)
    × (before ≡ at_index head items cell name conns pin net)

abbrev pub IsAtClose : List Lexeme → Type 0
IsAtClose before =
    (head : Head) × (items : List Item) × (cell : List ℕ) × (name : List ℕ) × (conns : Row Conn)
    × (before ≡ at_close head items cell name conns)

-- the last number of a range, behind this first one
abbrev pub IsAtLast : List Lexeme → List ℕ → Type 0
IsAtLast before first = (front : List Lexeme) × (before ≡ front ++ Mark LBracket ∷ Number first ∷ Mark Colon ∷ [])

-- a name that stands next is declared, with this range or with none
abbrev pub IsDeclaring : List Lexeme → Option Range → Type 0
IsDeclaring before range =
    ((title : List ℕ) × (groups : List (Group Direction)) × (direction : Direction) × (names : List (List ℕ))
    × (before ≡ in_ansi title groups (record { lead = direction; range = range }) names))
    ⊎ ((head : Head) × (items : List Item) × (lead : Lead) × (names : List (List ℕ))
    × (before ≡ at_declared head items (record { lead = lead; range = range }) names))
