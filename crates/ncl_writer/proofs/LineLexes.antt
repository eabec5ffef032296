-- The lexemes of the lines of a netlist's text.
use Rattle.ncl_writer.proofs.Terms.{AllByRecursion, Bool, CellKind, Conn, Dot, IsWritableName, Item, Joins, LParen, Lexeme, List, Mark, Module, Name, None, Port, RParen, Semi, Word, [], ap, append_assoc, arith, cell_name_of, cell_name_of-capital, closed, codes, conn_phrase, false, flat_map, head_phrase, if◌then◌else◌, is_capital_word, item_phrase, join_with_byte, length, map, name_phrase, opened, pin_text, port_line, refl, row_phrase, spelled_name, subst, sym, true, wire_line, word_of, ℕ, ◌++◌, ◌<◌, ◌∙◌, ◌∷◌, ◌≡◌}
use Rattle.ncl_writer.proofs.Lexing.{Lexes, lexes-white, lexes-along, lexes-as, lexes-left, lexes-right, lexes-semi, lexes-dot}
use Rattle.ncl_writer.proofs.NameLexes.{lexes-name, lexes-plain, capital_plain, name_after_left, lexes-module, lexes-input, lexes-output, lexes-wire}
use Rattle.ncl_writer.proofs.Rows.{row_of, lexes-row, row_after_left}
use Rattle.ncl_writer.proofs.Tree.{ports_of, way_of, port_item, wire_item, conn_row}

-- the end of a line that a sign ends
lexes-end : (rest : List ℕ) (lexemes : List Lexeme) → Lexes rest lexemes → Lexes (codes ";\n" ++ rest) (Mark Semi ∷ lexemes)
lexes-end rest lexemes lexes = lexes-semi (10 ∷ rest) lexemes (lexes-white 10 rest lexemes refl lexes)

-- a name and the end of the line
lexes-named : (name rest : List ℕ) (lexemes : List Lexeme) → IsWritableName name → Lexes rest lexemes → Lexes ((spelled_name name ++ codes ";\n") ++ rest) (Name name ∷ Mark Semi ∷ lexemes)
lexes-named name rest lexemes may lexes =
    lexes-along ((spelled_name name ++ codes ";\n") ++ rest) (spelled_name name ++ (codes ";\n" ++ rest)) (Name name ∷ Mark Semi ∷ lexemes) (append_assoc (spelled_name name) (codes ";\n") rest)
    (lexes-name name (codes ";\n" ++ rest) (Mark Semi ∷ lexemes) may refl (lexes-end rest lexemes lexes))

-- ---- declarations

pub lexes-wire_line : (net rest : List ℕ) (lexemes : List Lexeme) → IsWritableName net → Lexes rest lexemes → Lexes (wire_line net ++ rest) (item_phrase (wire_item net) ++ lexemes)
lexes-wire_line net rest lexemes may lexes =
    lexes-wire ((spelled_name net ++ codes ";\n") ++ rest) (Name net ∷ Mark Semi ∷ lexemes) (lexes-named net rest lexemes may lexes)

pub lexes-port_line : (port : Port) (rest : List ℕ) (lexemes : List Lexeme) → IsWritableName port.name → Lexes rest lexemes → Lexes (port_line port ++ rest) (item_phrase (port_item port) ++ lexemes)
lexes-port_line port rest lexemes may lexes = by port.output
  where
    named : Lexes ((spelled_name port.name ++ codes ";\n") ++ rest) (Name port.name ∷ Mark Semi ∷ lexemes)
    named = lexes-named port.name rest lexemes may lexes

    by : (output : Bool) → Lexes (((if output then codes "output " else codes "input ") ++ (spelled_name port.name ++ codes ";\n")) ++ rest) (Word (word_of (way_of output)) ∷ Name port.name ∷ Mark Semi ∷ lexemes)
    by true = lexes-output ((spelled_name port.name ++ codes ";\n") ++ rest) (Name port.name ∷ Mark Semi ∷ lexemes) named
    by false = lexes-input ((spelled_name port.name ++ codes ";\n") ++ rest) (Name port.name ∷ Mark Semi ∷ lexemes) named

-- ---- cells

-- a pin and its net: the pin is a capital word, and the net can be written
pub record IsWritableConn (conn : Conn) : Type 0 where
  pub pin : is_capital_word conn.pin ≡ true
  pub net : IsWritableName conn.net.name
  pub whole : conn.net.index ≡ None

abbrev pub conn_text : Conn → List ℕ
conn_text conn = pin_text conn.pin conn.net.name

lexes-conn : (conn : Conn) (rest : List ℕ) (lexemes : List Lexeme) → IsWritableConn conn → Lexes rest lexemes → Lexes (conn_text conn ++ rest) (conn_phrase conn ++ lexemes)
lexes-conn conn rest lexemes may lexes =
    subst (λ i. Lexes (conn_text conn ++ rest) (conn_phrase (record { pin = conn.pin; net = record { name = conn.net.name; index = i } }) ++ lexemes)) (sym may.whole) (lexes-net conn rest lexemes may lexes)
  where
    lexes-net : (conn : Conn) (rest : List ℕ) (lexemes : List Lexeme) → IsWritableConn conn → Lexes rest lexemes → Lexes (conn_text conn ++ rest) (Mark Dot ∷ Name conn.pin ∷ Mark LParen ∷ Name conn.net.name ∷ Mark RParen ∷ lexemes)
    lexes-net conn rest lexemes may lexes =
        let net : List ℕ = spelled_name conn.net.name in
        let behind : (net ++ codes ")") ++ rest ≡ net ++ 41 ∷ rest = append_assoc net (codes ")") rest in
        let along : (conn.pin ++ 40 ∷ (net ++ codes ")")) ++ rest ≡ conn.pin ++ 40 ∷ (net ++ 41 ∷ rest) =
        append_assoc conn.pin (40 ∷ (net ++ codes ")")) rest ∙ ap (λ l. conn.pin ++ 40 ∷ l) behind in
        lexes-dot ((conn.pin ++ 40 ∷ (net ++ codes ")")) ++ rest) (Name conn.pin ∷ Mark LParen ∷ Name conn.net.name ∷ Mark RParen ∷ lexemes)
        (lexes-along ((conn.pin ++ 40 ∷ (net ++ codes ")")) ++ rest) (conn.pin ++ 40 ∷ (net ++ 41 ∷ rest)) (Name conn.pin ∷ Mark LParen ∷ Name conn.net.name ∷ Mark RParen ∷ lexemes) along
        (lexes-plain conn.pin (40 ∷ (net ++ 41 ∷ rest)) (Mark LParen ∷ Name conn.net.name ∷ Mark RParen ∷ lexemes) (capital_plain conn.pin may.pin) refl
        (lexes-left (net ++ 41 ∷ rest) (Name conn.net.name ∷ Mark RParen ∷ lexemes) (name_after_left conn.net.name (41 ∷ rest) may.net)
        (lexes-name conn.net.name (41 ∷ rest) (Mark RParen ∷ lexemes) may.net refl (lexes-right rest lexemes lexes)))))

-- the pins of a cell, and the end of the line
lexes-conns : (conn : Conn) (conns : List Conn) (rest : List ℕ) (lexemes : List Lexeme) → IsWritableConn conn → AllByRecursion IsWritableConn conns → Lexes rest lexemes → Lexes (opened (map conn_text (conn ∷ conns)) ++ (codes ");\n" ++ rest)) (Mark LParen ∷ (row_phrase conn_phrase (row_of conn conns) ++ Mark RParen ∷ Mark Semi ∷ lexemes))
lexes-conns conn conns rest lexemes may all lexes =
    let behind : List ℕ = codes ");\n" ++ rest in
    lexes-left (join_with_byte 44 (map conn_text (conn ∷ conns)) ++ behind) (row_phrase conn_phrase (row_of conn conns) ++ Mark RParen ∷ Mark Semi ∷ lexemes) (row_after_left conn_text conn_phrase IsWritableConn (λ one text good. refl) conn conns behind may)
    (lexes-row conn_text conn_phrase IsWritableConn (λ one text others good stops more. lexes-conn one text others good more) conn conns behind (Mark RParen ∷ Mark Semi ∷ lexemes) may all refl
    (lexes-right (codes ";\n" ++ rest) (Mark Semi ∷ lexemes) (lexes-end rest lexemes lexes)))

-- the name of a cell, its own name, and its pins
pub lexes-instance : (kind : CellKind) (name : List ℕ) (conns : List Conn) (rest : List ℕ) (lexemes : List Lexeme) → IsWritableName name → 0 < length conns → AllByRecursion IsWritableConn conns → Lexes rest lexemes → Lexes ((cell_name_of kind ++ 32 ∷ (spelled_name name ++ (opened (map conn_text conns) ++ codes ");\n"))) ++ rest) (item_phrase (Joins (cell_name_of kind) name (conn_row conns)) ++ lexemes)
lexes-instance kind name [] rest lexemes may some all lexes = absurd (omega arith)
lexes-instance kind name (conn ∷ conns) rest lexemes may some all lexes =
    let cell : List ℕ = cell_name_of kind in
    let own : List ℕ = spelled_name name in
    let pins : List ℕ = opened (map conn_text (conn ∷ conns)) in
    let row : List Lexeme = row_phrase conn_phrase (row_of conn conns) in
    let left : List ℕ = own ++ (pins ++ (codes ");\n" ++ rest)) in
    let texts : (cell ++ 32 ∷ (own ++ (pins ++ codes ");\n"))) ++ rest ≡ cell ++ 32 ∷ left =
    append_assoc cell (32 ∷ (own ++ (pins ++ codes ");\n"))) rest
    ∙ ap (λ l. cell ++ 32 ∷ l) (append_assoc own (pins ++ codes ");\n") rest ∙ ap (λ l. own ++ l) (append_assoc pins (codes ");\n") rest)) in
    let phrases : (row ++ Mark RParen ∷ Mark Semi ∷ []) ++ lexemes ≡ row ++ Mark RParen ∷ Mark Semi ∷ lexemes = append_assoc row (Mark RParen ∷ Mark Semi ∷ []) lexemes in
    let behind : List Lexeme = Name name ∷ Mark LParen ∷ (row ++ Mark RParen ∷ Mark Semi ∷ lexemes) in
    lexes-along ((cell ++ 32 ∷ (own ++ (pins ++ codes ");\n"))) ++ rest) (cell ++ 32 ∷ left) (item_phrase (Joins cell name (conn_row (conn ∷ conns))) ++ lexemes) texts
    (lexes-as (cell ++ 32 ∷ left) (item_phrase (Joins cell name (conn_row (conn ∷ conns))) ++ lexemes) (Name cell ∷ behind) (ap (λ l. Name cell ∷ Name name ∷ Mark LParen ∷ l) phrases)
    (lexes-plain cell (32 ∷ left) behind (capital_plain cell (cell_name_of-capital kind)) refl
    (lexes-white 32 left behind refl
    (lexes-name name (pins ++ (codes ");\n" ++ rest)) (Mark LParen ∷ (row ++ Mark RParen ∷ Mark Semi ∷ lexemes)) may refl
    (lexes-conns conn conns rest lexemes all.0 all.1 lexes)))))

-- ---- the header

pub lexes-header : (title : List ℕ) (names : List (List ℕ)) (rest : List ℕ) (lexemes : List Lexeme) → IsWritableName title → AllByRecursion IsWritableName names → Lexes rest lexemes → Lexes ((codes "module " ++ (spelled_name title ++ (opened (map spelled_name names) ++ (closed (map spelled_name names) ++ codes ";\n")))) ++ rest) (head_phrase (record { name = title; ports = ports_of names }) ++ lexemes)
lexes-header title [] rest lexemes may all lexes =
    lexes-module ((spelled_name title ++ codes ";\n") ++ rest) (Name title ∷ Mark Semi ∷ lexemes) (lexes-named title rest lexemes may lexes)
lexes-header title (x ∷ xs) rest lexemes may all lexes =
    let own : List ℕ = spelled_name title in
    let joined : List ℕ = join_with_byte 44 (map spelled_name (x ∷ xs)) in
    let row : List Lexeme = row_phrase name_phrase (row_of x xs) in
    let behind : List ℕ = 41 ∷ (codes ";\n" ++ rest) in
    let follow : List Lexeme = Mark RParen ∷ Mark Semi ∷ lexemes in
    let texts : (own ++ 40 ∷ (joined ++ 41 ∷ codes ";\n")) ++ rest ≡ own ++ 40 ∷ (joined ++ behind) =
    append_assoc own (40 ∷ (joined ++ 41 ∷ codes ";\n")) rest ∙ ap (λ l. own ++ 40 ∷ l) (append_assoc joined (41 ∷ codes ";\n") rest) in
    let phrases : ((row ++ Mark RParen ∷ []) ++ Mark Semi ∷ []) ++ lexemes ≡ row ++ follow =
    append_assoc (row ++ Mark RParen ∷ []) (Mark Semi ∷ []) lexemes ∙ append_assoc row (Mark RParen ∷ []) (Mark Semi ∷ lexemes) in
    let whole : List ℕ = codes "module " ++ ((own ++ 40 ∷ (joined ++ 41 ∷ codes ";\n")) ++ rest) in
    lexes-as whole (head_phrase (record { name = title; ports = ports_of (x ∷ xs) }) ++ lexemes) (Word Module ∷ Name title ∷ Mark LParen ∷ (row ++ follow)) (ap (λ l. Word Module ∷ Name title ∷ Mark LParen ∷ l) phrases)
    (lexes-module ((own ++ 40 ∷ (joined ++ 41 ∷ codes ";\n")) ++ rest) (Name title ∷ Mark LParen ∷ (row ++ follow))
    (lexes-along ((own ++ 40 ∷ (joined ++ 41 ∷ codes ";\n")) ++ rest) (own ++ 40 ∷ (joined ++ behind)) (Name title ∷ Mark LParen ∷ (row ++ follow)) texts
    (lexes-name title (40 ∷ (joined ++ behind)) (Mark LParen ∷ (row ++ follow)) may refl
    (lexes-left (joined ++ behind) (row ++ follow) (row_after_left spelled_name name_phrase IsWritableName name_after_left x xs behind all.0)
    (lexes-row spelled_name name_phrase IsWritableName (λ one text others good stops more. lexes-name one text others good stops more) x xs behind follow all.0 all.1 refl
    (lexes-right (codes ";\n" ++ rest) (Mark Semi ∷ lexemes) (lexes-end rest lexemes lexes)))))))

-- ---- line after line

pub lexes-lines : {X : Type 0} (line : X → List ℕ) (item : X → Item) (Good : X → Type 0) → ((x : X) (rest : List ℕ) (lexemes : List Lexeme) → Good x → Lexes rest lexemes → Lexes (line x ++ rest) (item_phrase (item x) ++ lexemes)) → (xs : List X) (rest : List ℕ) (lexemes : List Lexeme) → AllByRecursion Good xs → Lexes rest lexemes → Lexes (flat_map line xs ++ rest) (flat_map item_phrase (map item xs) ++ lexemes)
lexes-lines line item Good each [] rest lexemes all lexes = lexes
lexes-lines line item Good each (x ∷ xs) rest lexemes all lexes =
    let lines : List ℕ = flat_map line xs in
    let phrases : List Lexeme = flat_map item_phrase (map item xs) in
    lexes-along ((line x ++ lines) ++ rest) (line x ++ (lines ++ rest)) ((item_phrase (item x) ++ phrases) ++ lexemes) (append_assoc (line x) lines rest)
    (lexes-as (line x ++ (lines ++ rest)) ((item_phrase (item x) ++ phrases) ++ lexemes) (item_phrase (item x) ++ (phrases ++ lexemes)) (append_assoc (item_phrase (item x)) phrases lexemes)
    (each x (lines ++ rest) (phrases ++ lexemes) all.0 (lexes-lines line item Good each xs rest lexemes all.1 lexes)))
