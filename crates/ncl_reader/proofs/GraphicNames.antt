-- Names of a text are made of printing characters, and its cells have a net on each pin.
pub use Rattle.ncl_reader.proofs.Terms.{[], ◌≡◌, ℕ, zero, suc, ◌+◌, ◌-◌, ◌<◌, ◌≤◌, ◌/◌, ◌%◌, arith, List, ◌∷◌, ◌++◌, length, map, take, Bool, true, false, Option, Some, None, not, refl, sym, ap, ◌∙◌, subst, append_assoc, unwrap_or, slice_range, codes, decimal, nat_lt, ◌==◌, All, if◌then◌else◌, digits_onto, digit_glyph, list_all, flat_map, find, AllByRecursion, option_map, bytes_eq, digits_value, nat_tests, and_parts, and_from, take_at, length-append, All-nil, All-cons, All-head, All-tail, All-append, All-filter, Token, TokenKind, begins_word, continues_word, is_graphic, IsToken, is_word, is_escaped, Stop, at_end, at_bad, name_of, IsTokenOf, tokens_in_text, pins_of, Port, Cell, Parts, PartCell, same_name, once_each, netlist_of, nets_of, port_names, cell_of, Keyword, EndModule, Lexeme, Word, Name, End, lexemes, lexeme_of, word_lexeme, keyword_of, Range, Net, Conn, Item, Declares, Joins, text_phrase, body_phrase, header_of, bit_name, span_of, Stands, Said, Joined, joined_in, bits_of, said_by, net_name, net_on, AreCellsOf, Reads, placed_in, IsGraphicName, HasGraphicNames, Member, Contains-from_Member, All-from_members, member_of_flat_map, ports_at, said_at, length-map, HasAllPins, with_commas, conn_phrase, item_phrase, row_phrase, head_phrase, Mark, Comma, RParen, Semi}
use Rattle.std.specs.Fmt.{digits}
use Rattle.ncl_reader.proofs.Ports.{alone, bit_of_map, names-ports, names_of, some-said}
use Rattle.ncl_reader.proofs.SaidDeclared.{whole, header_stands}
use Rattle.ncl_reader.proofs.Facts.{stands-old}

-- bytes of words and of numbers
graphic_from : (byte : ℕ) → 33 ≤ byte → byte ≤ 126 → is_graphic byte ≡ true
graphic_from byte low high = grind (arith, nat_tests)

pub graphic_word : (byte : ℕ) → begins_word byte ≡ true → is_graphic byte ≡ true
graphic_word byte is = grind (arith, nat_tests)

pub graphic_more : (byte : ℕ) → continues_word byte ≡ true → is_graphic byte ≡ true
graphic_more byte is = grind (arith, nat_tests)

graphic_all : (bytes : List ℕ) → list_all continues_word bytes ≡ true → IsGraphicName bytes
graphic_all [] all = refl
graphic_all (b ∷ bytes) all = let (first, more) = and_parts (continues_word b) (list_all continues_word bytes) all in and_from (is_graphic b) (list_all is_graphic bytes) (graphic_more b first) (graphic_all bytes more)

graphic_append : (xs ys : List ℕ) → IsGraphicName xs → IsGraphicName ys → IsGraphicName (xs ++ ys)
graphic_append [] ys one two = two
graphic_append (x ∷ xs) ys one two = let (first, more) = and_parts (is_graphic x) (list_all is_graphic xs) one in and_from (is_graphic x) (list_all is_graphic (xs ++ ys)) first (graphic_append xs ys more two)

-- a number that is written
graphic_glyph : (n : ℕ) → is_graphic (digit_glyph false (n % 10)) ≡ true
graphic_glyph n = by (nat_lt (n % 10) 10) refl
  where
    less : n % 10 < 10
    less = omega arith

    by : (b : Bool) → nat_lt (n % 10) 10 ≡ b → is_graphic (if b then 48 + n % 10 else 87 + n % 10) ≡ true
    by true e = graphic_from (48 + n % 10) (omega arith) (omega (arith, less))
    by false e = graphic_from (87 + n % 10) (omega arith) (omega (arith, less))

graphic_digits : (k n : ℕ) (acc : List ℕ) → IsGraphicName acc → IsGraphicName (digits_onto k 10 false n acc)
graphic_digits zero n acc all = all
graphic_digits (suc k) n acc all =
    let more = and_from (is_graphic (digit_glyph false (n % 10))) (list_all is_graphic acc) (graphic_glyph n) all in
    by (n / 10 == 0) more (graphic_digits k (n / 10) (digit_glyph false (n % 10) ∷ acc) more)
  where
    by : (b : Bool) → IsGraphicName (digit_glyph false (n % 10) ∷ acc) → IsGraphicName (digits_onto k 10 false (n / 10) (digit_glyph false (n % 10) ∷ acc)) → IsGraphicName (if b then digit_glyph false (n % 10) ∷ acc else digits_onto k 10 false (n / 10) (digit_glyph false (n % 10) ∷ acc))
    by true one more = one
    by false one more = more

graphic_decimal : (n : ℕ) → IsGraphicName (decimal n)
unfolding digits
graphic_decimal n = graphic_digits 64 n [] refl

graphic_bit : (name : List ℕ) (k : ℕ) → IsGraphicName name → IsGraphicName (bit_name name k)
graphic_bit name k is = graphic_append name _ is (graphic_append (codes "[") (decimal k ++ codes "]") refl (graphic_append (decimal k) (codes "]") (graphic_decimal k) refl))

-- the names among tokens are such
abbrev IsFine : Lexeme → Type 0
IsFine (Name x) = IsGraphicName x
IsFine t = Unit {0}

abbrev Fine : List Lexeme → Type 0
Fine ts = AllByRecursion IsFine ts

fine-parts : (xs ys : List Lexeme) → Fine (xs ++ ys) → Fine xs × Fine ys
fine-parts [] ys fine = (tt, fine)
fine-parts (x ∷ xs) ys fine = let (front, back) = fine-parts xs ys fine.1 in ((fine.0, front), back)

-- what a token is
fine_word : (found : Option Keyword) (span : List ℕ) → IsGraphicName span → IsFine (word_lexeme found span)
fine_word (Some word) span is = tt
fine_word None span is = is

escaped_name : (span name : List ℕ) (ending : ℕ) → span ≡ 92 ∷ (name ++ ending ∷ []) → slice_range span 1 (length span - 1) ≡ name
escaped_name span name ending is =
    let long : length (name ++ ending ∷ []) ≡ length name + 1 = length-append name (ending ∷ []) in
    ap (λ s. slice_range s 1 (length s - 1)) is ∙ ap (λ n. take n (name ++ ending ∷ [])) (omega (arith, long)) ∙ take_at name (ending ∷ []) (length name) refl

fine-token : (kind : TokenKind) (span : List ℕ) → IsToken kind span → IsFine (lexeme_of kind (name_of kind span))
fine-token _ span (is_word first others is begins continues) = fine_word (keyword_of span) span (subst IsGraphicName (sym is) (and_from (is_graphic first) (list_all is_graphic others) (graphic_word first begins) (graphic_all others continues)))
fine-token _ span (is_escaped name ending is some graphic white) = subst IsGraphicName (sym (escaped_name span name ending is)) graphic
fine-token kind span is = tt

fine-tokens : (bytes : List ℕ) (tokens : List Token) (stop : Stop) → All (IsTokenOf bytes) tokens → Fine (lexemes (placed_in bytes tokens stop))
fine-tokens bytes [] at_end all = (tt, tt)
fine-tokens bytes [] (at_bad place) all = (tt, tt)
fine-tokens bytes (token ∷ tokens) stop all = (fine-token token.kind (slice_range bytes token.start token.end) (All-head (IsTokenOf bytes) token tokens all).is_token, fine-tokens bytes tokens stop (All-tail (IsTokenOf bytes) token tokens all))

-- connections of a tree
abbrev IsOnGraphic : Conn → Type 0
IsOnGraphic conn = IsGraphicName (net_name conn.net)

fine_net : (net : Net) → IsGraphicName net.name → IsGraphicName (net_name net)
fine_net net is = by net.index
  where
    by : (index : Option (List ℕ)) → IsGraphicName (net_name (record { name = net.name; index = index }))
    by None = is
    by (Some digits) = graphic_bit net.name (digits_value 10 digits) is

pub record IsFineJoined (joined : Joined) : Type 0 where
  pub name : IsGraphicName joined.name
  pub conns : All IsOnGraphic joined.conns

fine_conns : (conns : List Conn) → Fine (with_commas conn_phrase conns) → All IsOnGraphic conns
fine_conns [] fine = All-nil IsOnGraphic
fine_conns (c ∷ conns) fine = All-cons IsOnGraphic c conns (fine_net c.net fine.1.1.1.0) (fine_conns conns (fine-parts (conn_phrase c ++ Mark Comma ∷ []) (with_commas conn_phrase conns) fine).1)

fine_items : (items : List Item) → Fine (flat_map item_phrase items) → All IsFineJoined (flat_map joined_in items)
fine_items [] fine = All-nil IsFineJoined
fine_items (Declares group ∷ items) fine = fine_items items (fine-parts (item_phrase (Declares group)) (flat_map item_phrase items) fine).1
fine_items (Joins cell name conns ∷ items) fine =
    let (one, more) = fine-parts (item_phrase (Joins cell name conns)) (flat_map item_phrase items) fine in
    let (row, ends) = fine-parts (row_phrase conn_phrase conns) (Mark RParen ∷ Mark Semi ∷ []) one.1.1.1 in
    let (before, last) = fine-parts (with_commas conn_phrase conns.before) (conn_phrase conns.last) row in
    let nets = All-append IsOnGraphic conns.before (conns.last ∷ []) (fine_conns conns.before before) (All-cons IsOnGraphic conns.last [] (fine_net conns.last.net last.1.1.1.0) (All-nil IsOnGraphic)) in
    All-cons IsFineJoined _ (flat_map joined_in items) (record { name = one.1.0; conns = nets }) (fine_items items more)

-- cells that are said
fine_found : (conns : List Conn) (pin : List ℕ) → All IsOnGraphic conns → IsGraphicName (unwrap_or (net_on conns pin) [])
fine_found [] pin all = refl
fine_found (c ∷ conns) pin all = by (bytes_eq c.pin pin) (fine_found conns pin (All-tail IsOnGraphic c conns all))
  where
    by : (b : Bool) → IsGraphicName (unwrap_or (net_on conns pin) []) → IsGraphicName (unwrap_or (option_map (λ (c : Conn). net_name c.net) (if b then Some c else find (λ (c : Conn). bytes_eq c.pin pin) conns)) [])
    by true rest = All-head IsOnGraphic c conns all
    by false rest = rest

fine_pins : (conns : List Conn) (pins : List (List ℕ)) → All IsOnGraphic conns → All IsGraphicName (map (λ pin. unwrap_or (net_on conns pin) []) pins)
fine_pins conns [] all = All-nil IsGraphicName
fine_pins conns (pin ∷ pins) all = All-cons IsGraphicName (unwrap_or (net_on conns pin) []) _ (fine_found conns pin all) (fine_pins conns pins all)

fine_cell_names : (js : List Joined) (cs : List PartCell) → AreCellsOf js cs → All IsFineJoined js → All IsGraphicName (map (λ (c : PartCell). c.name) cs)
fine_cell_names [] [] are all = All-nil IsGraphicName
fine_cell_names (j ∷ js) (c ∷ cs) are all = All-cons IsGraphicName c.name (map (λ (c : PartCell). c.name) cs) (subst IsGraphicName (sym are.0.name) (All-head IsFineJoined j js all).name) (fine_cell_names js cs are.1 (All-tail IsFineJoined j js all))
fine_cell_names js cs are all = absurd are

fine_cell_nets : (js : List Joined) (cs : List PartCell) → AreCellsOf js cs → All IsFineJoined js → All IsGraphicName (flat_map (λ (c : PartCell). c.pins) cs)
fine_cell_nets [] [] are all = All-nil IsGraphicName
fine_cell_nets (j ∷ js) (c ∷ cs) are all = All-append IsGraphicName c.pins (flat_map (λ (c : PartCell). c.pins) cs) (subst (All IsGraphicName) (sym are.0.pins) (fine_pins j.conns (pins_of c.kind) (All-head IsFineJoined j js all).conns)) (fine_cell_nets js cs are.1 (All-tail IsFineJoined j js all))
fine_cell_nets js cs are all = absurd are

-- ports that are said
fine_bits : (x : List ℕ) (range : Option Range) (z : List ℕ) → IsGraphicName x → Member z (bits_of x range) → IsGraphicName z
fine_bits x None z is among = subst IsGraphicName (sym (alone x z among)) is
fine_bits x (Some range) z is among = let (k, bit, covers) = bit_of_map x (span_of range) z among in subst IsGraphicName (sym bit) (graphic_bit x k is)

fine_ports : (said : List Said) (names : List (List ℕ)) → All IsGraphicName names → All IsGraphicName (map (λ (p : Port). p.name) (flat_map (ports_at said) names))
fine_ports said names all = subst (All IsGraphicName) (sym (names-ports said names)) (All-from_members IsGraphicName _ (λ z among.
    let (x, stands, is) = member_of_flat_map (λ x. names_of (said_at said x)) names z among in
    let (k, less, same) = Contains-from_Member x stands in
    by x z (subst IsGraphicName same (all k x less)) (said_at said x) refl is))
  where
    by : (x z : List ℕ) → IsGraphicName x → (found : Option Said) → said_at said x ≡ found → Member z (names_of found) → IsGraphicName z
    by x z is None e among = elim among [ ]
    by x z is (Some s) e among = fine_bits s.name s.range z (subst IsGraphicName (sym (some-said x said s e).1) is) among

-- each name once
fine_once : (names : List (List ℕ)) → All IsGraphicName names → All IsGraphicName (once_each names)
fine_once [] all = All-nil IsGraphicName
fine_once (x ∷ names) all = All-cons IsGraphicName x _ (All-head IsGraphicName x names all) (All-filter (λ y. not (same_name y x)) IsGraphicName (once_each names) (fine_once names (All-tail IsGraphicName x names all)))

same_cell_names : (nets : List (List ℕ)) (cells : List PartCell) → map (λ (c : Cell). c.name) (map (cell_of nets) cells) ≡ map (λ (c : PartCell). c.name) cells
same_cell_names nets [] = refl
same_cell_names nets (c ∷ cells) = ap (λ l. c.name ∷ l) (same_cell_names nets cells)

-- of names to what has them
from_map : {Y : Type 0} (f : Y → List ℕ) (ys : List Y) → All IsGraphicName (map f ys) → All (λ y. IsGraphicName (f y)) ys
from_map f [] all = All-nil (λ y. IsGraphicName (f y))
from_map f (y ∷ ys) all = All-cons (λ y. IsGraphicName (f y)) y ys (All-head IsGraphicName (f y) (map f ys) all) (from_map f ys (All-tail IsGraphicName (f y) (map f ys) all))

-- the names of what a text says
pub graphic_names : (bytes : List ℕ) (parts : Parts) → Reads bytes parts → HasGraphicNames (netlist_of parts)
graphic_names bytes parts (ts, (tokens, stop, are, is), reads) =
    let text = reads.text in
    let head = text.head in
    let items = text.items in
    let fine : Fine (text_phrase text) = subst Fine (ap lexemes (sym is) ∙ reads.derives) (fine-tokens bytes tokens stop (tokens_in_text bytes tokens stop are)) in
    let graphic : (x : List ℕ) → Stands (whole head items) x → IsGraphicName x = λ x stands.
    let (front, rest, e) = stands-old (whole head items) (End ∷ []) x stands in (fine-parts front (Name x ∷ rest) (subst Fine (sym (append_assoc (body_phrase head items) (Word EndModule ∷ []) (End ∷ [])) ∙ e) fine)).1.0 in
    let body = (fine-parts (body_phrase head items) (Word EndModule ∷ End ∷ []) fine).0 in
    let joins = fine_items items (fine-parts (head_phrase head) (flat_map item_phrase items) body).1 in
    let names : All IsGraphicName (header_of head) = All-from_members IsGraphicName _ (λ x among. graphic x (header_stands head items x (Contains-from_Member x among))) in
    let ports : All IsGraphicName (port_names parts) = subst (λ l. All IsGraphicName (map (λ (p : Port). p.name) l)) (sym reads.says.ports) (fine_ports (said_by text) (header_of head) names) in
    let nets : All IsGraphicName (flat_map (λ (c : PartCell). c.pins) parts.cells) = fine_cell_nets (flat_map joined_in items) parts.cells reads.says.cells joins in
    record {
      title = subst IsGraphicName (sym reads.says.title) fine.1.0;
      ports = from_map (λ (p : Port). p.name) parts.ports ports;
      nets = fine_once (port_names parts ++ flat_map (λ (c : PartCell). c.pins) parts.cells) (All-append IsGraphicName (port_names parts) _ ports nets);
      cells = from_map (λ (c : Cell). c.name) (map (cell_of (nets_of parts)) parts.cells) (subst (All IsGraphicName) (sym (same_cell_names (nets_of parts) parts.cells)) (fine_cell_names (flat_map joined_in items) parts.cells reads.says.cells joins));
    }

-- a cell has a net on each pin
pub all_pins : (js : List Joined) (cs : List PartCell) → AreCellsOf js cs → All HasAllPins cs
all_pins [] [] are = All-nil HasAllPins
all_pins (j ∷ js) (c ∷ cs) are = All-cons HasAllPins c cs (ap length are.0.pins ∙ length-map (pins_of c.kind) _) (all_pins js cs are.1)
all_pins js cs are = absurd are
