-- It is decided whether a token breaks a rule; a token that breaks has a fault; and each text has an answer.
use Rattle.ncl_reader.proofs.Terms.{[], ◌≡◌, ◌≢◌, ℕ, ◌<◌, length, List, ◌∷◌, ◌++◌, Option, Some, None, inl, inr, refl, sym, ap, ◌∙◌, subst, Contains, arith, option_map, flat_map, digits_value, cases_lt, same_Some, Contains-append_right, Contains-append_cases, CellKind, cell_name_of, pins_of, cell_or_none, cell_name_of-distinct, EndModule, word_of, RParen, LBracket, Lexeme, Word, Name, Number, Mark, Row, Direction, Lead, Gives, Wires, Range, Group, group_names, Listing, Empty, Names, Ansi, header_of, IsDeclaring, IsAtNet, span_of, Covers, bit_name, MOST_VECTOR_BITS, MOST_PORT_BITS, Stands, IsDeclared, IsVector, directed_by, IsOutside, Redeclares, Clashes, Crowds, BreaksRule, pins_in, LeadPart, coloned, leading, Partial, listing, heading, at_item, inside, declaring, dotted, netted, indexing, opened, joined, spelled, Wire, Comma, RBracket, Colon, Other, NetFault, Syntax, UnknownCell, BadPins, Unsupported, IsUnknown, HasBadPins, IsMisread, IsLeftOut, IsFaultAt, map, ◌⊎◌, append_assoc, unwrap_or, append-nil, flat_map_more, Token, Stop, at_end, at_bad, some_list, PartCell, Parts, End, Placed, lexemes, Item, Declares, Joins, Head, Text, item_phrase, head_phrase, body_phrase, text_phrase, all_of, Breaks, NoneBreaks, net_on, ports_said, joined_in, AreCellsOf, Says, IsRefusedAt, placed_of, placed_in, IsLexed, Reads, IsRefused}
use Rattle.ncl_reader.proofs.Among.{among_or_not, single}
use Rattle.ncl_reader.proofs.Facts.{Of, part_spec, part_names, Decided, both_decided, either_decided, same_or_not, any-or-not, tree_or_not, declaring_or_not, spans_or_not, covers_or_not, bit_or_not, net_or_not, item_or_not, conn_or_not, pin_or_not, behind_or_not, index_or_not, close_or_not}
use Rattle.ncl_reader.proofs.RulesAt.{Given, NameAt, CrowdsAt, LongPart, LongAt, OutsideAt, BreaksAt, crowds-here, crowds-back, outside-here, outside-back, breaks-here, breaks-back}
use Rattle.ncl_reader.proofs.Steps.{step, grows, breaks-untaken, breaks-taken}
use Rattle.ncl_reader.proofs.Loop.{Stands as AreRead, stands-first, stands-more, stands-broken, stands-bad, stands-whole, end-cases, cut-end}

-- what isn't
not_decided : {P : Type 0} → Decided P → Decided (P → ⊥)
not_decided (inl p) = inr (λ fails. fails p)
not_decided (inr fails) = inl fails

-- from one fact to a record of it, and back
mapped : {P Q : Type 0} → (P → Q) → (Q → P) → Decided P → Decided Q
mapped there back (inl p) = inl (there p)
mapped there back (inr fails) = inr (λ q. fails (back q))

less_or_not : (a b : ℕ) → Decided (a < b)
less_or_not a b = elim (cases_lt a b) [
  | inl less ↦ inl less
  | inr most ↦ inr (λ less. omega (arith, less, most))
]

-- some name of one list isn't of another
lacking_or_not : (xs ys : List (List ℕ)) → Decided ((x : List ℕ) × Contains xs x × ¬ Contains ys x)
lacking_or_not [] ys = inr (λ (x, found, lacks). omega (arith, found.1))
lacking_or_not (z ∷ xs) ys = by (among_or_not ys z) (lacking_or_not xs ys)
  where
    by : Decided (Contains ys z) → Decided ((x : List ℕ) × Contains xs x × ¬ Contains ys x) → Decided ((x : List ℕ) × Contains (z ∷ xs) x × ¬ Contains ys x)
    by (inr lacks) rest = inl (z, (0, omega arith, refl), lacks)
    by (inl has) (inl (x, stands, lacks)) = inl (x, Contains-append_right (z ∷ []) xs x stands, lacks)
    by (inl has) (inr none) = inr (λ (x, found, lacks). elim (Contains-append_cases (z ∷ []) xs x found) [
      | inl here ↦ lacks (subst (λ y. Contains ys y) (single z x here) has)
      | inr there ↦ none (x, there, lacks)
    ])

-- what holds of what is there, of a declaration that gives a direction, and of the cell with a name
of_decided : {S : Type 0} (found : Option S) (P : S → Type 0) → ((s : S) → Decided (P s)) → Decided (Of found P)
of_decided None P decided = inr (λ none. none)
of_decided (Some s) P decided = decided s

given_decided : (lead : Lead) {P : Type 0} → Decided P → Decided (Given lead P)
given_decided (Gives direction) decided = decided
given_decided Wires decided = inr (λ none. none)

kind_decided : (cell : List ℕ) (P : CellKind → Type 0) → ((kind : CellKind) → Decided (P kind)) → Decided ((kind : CellKind) × (cell_name_of kind ≡ cell) × P kind)
kind_decided cell P decided = elim (cell_or_none cell) [
  | inl (kind, is) ↦ elim (decided kind) [
    | inl holds ↦ inl (kind, is, holds)
    | inr fails ↦ inr (λ (other, same, holds). fails (subst P (cell_name_of-distinct other kind (same ∙ sym is)) holds))
  ]
  | inr none ↦ inr (λ (kind, is, holds). none kind is)
]

-- a name breaks a rule beside those of vectors
name_or_not : (p : Partial) (x : List ℕ) → Decided (NameAt p x)
name_or_not (listing title names) x = among_or_not names x
name_or_not (heading title groups part) x = of_decided (part_spec part) _ (λ spec. among_or_not (flat_map group_names groups ++ part_names part) x)
name_or_not (at_item head items) x = elim (cell_or_none x) [
  | inl found ↦ inr (λ none. none found.0 found.1)
  | inr none ↦ inl none
]
name_or_not (inside head items (declaring part)) x =
    of_decided (part_spec part) _ (λ spec. given_decided spec.lead (either_decided (not_decided (among_or_not (header_of head) x)) (among_or_not (directed_by head items ++ part_names part) x)))
name_or_not (inside head items (dotted cell name conns)) x = kind_decided cell _ (λ kind. either_decided (not_decided (among_or_not (pins_of kind) x)) (among_or_not (pins_in conns) x))
name_or_not p x = inr (λ none. none)

crowded_or_not : (p : Partial) (x : List ℕ) → Decided (CrowdsAt p x)
crowded_or_not (heading title groups part) x = of_decided (part_spec part) _ (λ spec. of_decided spec.range _ (λ range.
    both_decided (not_decided (among_or_not (flat_map group_names groups ++ part_names part) x)) (less_or_not MOST_PORT_BITS _)))
crowded_or_not (inside head items (declaring part)) x = of_decided (part_spec part) _ (λ spec. given_decided spec.lead (of_decided spec.range _ (λ range.
    both_decided (among_or_not (header_of head) x) (both_decided (not_decided (among_or_not (directed_by head items ++ part_names part) x)) (less_or_not MOST_PORT_BITS _)))))
crowded_or_not p x = inr (λ none. none)

pub crowds_or_not : (p : Partial) (x : List ℕ) → Decided (Crowds (spelled p) x)
crowds_or_not p x = mapped (crowds-back p x) (crowds-here p x) (crowded_or_not p x)

-- what the next name is declared with
declaring_so : (xs : List Lexeme) (P : Option Range → Type 0) → ((range : Option Range) → Decided (P range)) → Decided ((range : Option Range) × IsDeclaring xs range × P range)
declaring_so xs P decided = elim (declaring_or_not xs) [
  | inl (range, declares, once) ↦ elim (decided range) [
    | inl holds ↦ inl (range, declares, holds)
    | inr fails ↦ inr (λ (other, is, holds). fails (subst P (once other is) holds))
  ]
  | inr none ↦ inr (λ (range, declares, holds). none range declares)
]

declaring_vector : (xs : List Lexeme) (P : Range → Type 0) → ((range : Range) → Decided (P range)) → Decided ((range : Range) × IsDeclaring xs (Some range) × P range)
declaring_vector xs P decided = mapped
    (λ (range, declares, (some, is, holds)). (some, subst (IsDeclaring xs) is declares, holds))
    (λ (range, declares, holds). (Some range, declares, (range, refl, holds)))
    (declaring_so xs (λ range. (some : Range) × (range ≡ Some some) × P some) some_range)
  where
    some_range : (range : Option Range) → Decided ((some : Range) × (range ≡ Some some) × P some)
    some_range None = inr (λ (some, e, holds). absurd cc)
    some_range (Some range) = mapped (λ holds. (range, refl, holds)) (λ (some, e, holds). subst P (sym (same_Some range some e)) holds) (decided range)

-- a name stands behind what is such
named_so : (xs : List Lexeme) (x : List ℕ) (P : List Lexeme → Type 0) → ((front : List Lexeme) → Decided (P front)) → Decided ((front : List Lexeme) × (rest : List Lexeme) × (xs ≡ front ++ Name x ∷ rest) × P front)
named_so xs x P decided = mapped
    (λ (front, y, rest, is, (same, holds)). (front, rest, is ∙ ap (λ z. front ++ Name z ∷ rest) same, holds))
    (λ (front, rest, is, holds). (front, x, rest, is, (refl, holds)))
    (any-or-not (λ front y. (y ≡ x) × P front) (λ front y. both_decided (same_or_not y x) (decided front)) xs)

pub vector_or_not : (xs : List Lexeme) (x : List ℕ) (P : Range → Type 0) → ((range : Range) → Decided (P range)) → Decided ((range : Range) × IsVector xs x range × P range)
vector_or_not xs x P decided = mapped
    (λ (front, rest, is, (range, declares, holds)). (range, (front, rest, is, declares), holds))
    (λ (range, (front, rest, is, declares), holds). (front, rest, is, (range, declares, holds)))
    (named_so xs x _ (λ front. declaring_vector front P decided))

-- rule by rule
pub redeclares_or_not : (p : Partial) (x : List ℕ) → Decided (Redeclares (spelled p) x)
redeclares_or_not p x = declaring_so (spelled p) _ (λ range. either_decided (other range) (both_decided (some_or_not range) (named_so (spelled p) x IsAtNet at_net)))
  where
    other : (range : Option Range) → Decided ((other : Option Range) × IsDeclared (spelled p) x other × (option_map span_of other ≢ option_map span_of range))
    other range = mapped
        (λ (front, rest, is, (o, declares, differ)). (o, (front, rest, is, declares), differ))
        (λ (o, (front, rest, is, declares), differ). (front, rest, is, (o, declares, differ)))
        (named_so (spelled p) x _ (λ front. declaring_so front _ (λ o. not_decided (spans_or_not o range))))

    some_or_not : (range : Option Range) → Decided (range ≢ None)
    some_or_not None = inr (λ fails. fails refl)
    some_or_not (Some range) = inl (λ e. absurd cc)

    at_net : (front : List Lexeme) → Decided (IsAtNet front)
    at_net front = elim (tree_or_not front) [
      | inl (q, is) ↦ subst (λ l. Decided (IsAtNet l)) is (net_or_not q)
      | inr none ↦ inr (λ (h, is, c, n, cs, pn, e). none (inside h is (opened c n cs pn)) (sym e))
    ]

pub clashes_or_not : (p : Partial) (x : List ℕ) → Decided (Clashes (spelled p) x)
clashes_or_not p x = either_decided
    (mapped
    (λ (front, vector, rest, is, (range, declares, (k, covers, named))). (vector, range, k, named, (front, rest, is, declares), covers))
    (λ (vector, range, k, named, (front, rest, is, declares), covers). (front, vector, rest, is, (range, declares, (k, covers, named))))
    (any-or-not (λ front y. (range : Range) × IsDeclaring front (Some range) × ((k : ℕ) × Covers (span_of range) k × (x ≡ bit_name y k)))
    (λ front y. declaring_vector front _ (λ range. bit_or_not (λ k. x ≡ bit_name y k) (λ k. same_or_not x (bit_name y k)) (span_of range))) (spelled p)))
    (mapped
    (λ (range, declares, (k, covers, stands)). (range, k, declares, covers, stands))
    (λ (range, k, declares, covers, stands). (range, declares, (k, covers, stands)))
    (declaring_vector (spelled p) _ (λ range. bit_or_not (λ k. Stands (spelled p) (bit_name x k)) (λ k. stands_or_not (bit_name x k)) (span_of range))))
  where
    stands_or_not : (y : List ℕ) → Decided (Stands (spelled p) y)
    stands_or_not y = mapped (λ (front, rest, is, u). (front, rest, is)) (λ (front, rest, is). (front, rest, is, tt)) (named_so (spelled p) y (λ front. Unit {0}) (λ front. inl tt))

-- a declaration in the header
ansi_or_not : (ports : Option Listing) → Decided ((groups : Row (Group Direction)) × (ports ≡ Some (Ansi groups)))
ansi_or_not None = inr (λ (groups, e). absurd cc)
ansi_or_not (Some Empty) = inr (λ (groups, e). absurd cc)
ansi_or_not (Some (Names names)) = inr (λ (groups, e). absurd cc)
ansi_or_not (Some (Ansi groups)) = inl (groups, refl)

-- numbers
long_part : {L : Type 0} (part : LeadPart L) (digits : List ℕ) → Decided (LongPart part digits)
long_part (coloned l first) digits = less_or_not MOST_VECTOR_BITS _
long_part part digits = inr (λ none. none)

long_or_not : (p : Partial) (digits : List ℕ) → Decided (LongAt p digits)
long_or_not (heading title groups (leading part)) digits = long_part part digits
long_or_not (inside head items (declaring (leading part))) digits = long_part part digits
long_or_not p digits = inr (λ none. none)

outside_at : (p : Partial) (digits : List ℕ) → Decided (OutsideAt p digits)
outside_at (inside head items (indexing cell name conns pin net)) digits =
    vector_or_not (spelled (inside head items (indexing cell name conns pin net))) net (λ range. ¬ Covers (span_of range) (digits_value 10 digits)) (λ range. not_decided (covers_or_not (span_of range) (digits_value 10 digits)))
outside_at p digits = inr (λ none. none)

pub outside_or_not : (p : Partial) (digits : List ℕ) → Decided (IsOutside (spelled p) digits)
outside_or_not p digits = mapped (outside-back p digits) (outside-here p digits) (outside_at p digits)

-- what stands behind the name of a net is that of a vector, or not
is_vector : (xs : List Lexeme) (net : List ℕ) → Decided ((range : Range) × IsVector xs net range)
is_vector xs net = mapped (λ (range, vector, u). (range, vector)) (λ (range, vector). (range, vector, tt)) (vector_or_not xs net (λ range. Unit {0}) (λ range. inl tt))

at_or_not : (p : Partial) (t : Lexeme) → Decided (BreaksAt p t)
at_or_not p (Name x) = either_decided (name_or_not p x) (either_decided (redeclares_or_not p x) (either_decided (clashes_or_not p x) (crowds_or_not p x)))
at_or_not (at_item head items) (Word EndModule) = lacking_or_not (header_of head) (directed_by head items)
at_or_not (at_item head items) (Word (word_of way)) = ansi_or_not head.ports
at_or_not p (Word Wire) = inr (λ none. none)
at_or_not p (Number digits) = either_decided (either_decided (less_or_not 5 (length digits)) (less_or_not 65535 (digits_value 10 digits))) (either_decided (long_or_not p digits) (outside_at p digits))
at_or_not (inside head items (netted cell name conns pin net)) (Mark LBracket) =
    mapped (λ none range vector. none (range, vector)) (λ none (range, vector). none range vector) (not_decided (is_vector (spelled (inside head items (netted cell name conns pin net))) net))
at_or_not (inside head items (netted cell name conns pin net)) (Mark RParen) = is_vector (spelled (inside head items (netted cell name conns pin net))) net
at_or_not (inside head items (joined cell name conns conn)) (Mark RParen) = kind_decided cell _ (λ kind. lacking_or_not (pins_of kind) (pins_in (conns ++ conn ∷ [])))
at_or_not p (Mark Comma) = inr (λ none. none)
at_or_not p t = inr (λ none. none)

-- a token breaks a rule or it doesn't
pub rule_or_not : (p : Partial) (t : Lexeme) → Decided (BreaksRule (spelled p) t)
rule_or_not p t = mapped (breaks-back p t) (breaks-here p t) (at_or_not p t)

module _ (p : Partial) where
  pub unknown_class : (t : Lexeme) → Decided (IsUnknown (spelled p) t)
  unknown_class (Name x) = item_or_not p
  unknown_class t = inr (λ none. none)

  pub pins_class : (t : Lexeme) → Decided (HasBadPins (spelled p) t)
  pins_class (Name x) = pin_or_not p
  pins_class (Mark RParen) = close_or_not p
  pins_class t = inr (λ none. none)

  pub misread_class : (t : Lexeme) → Decided (IsMisread (spelled p) t)
  misread_class (Word EndModule) = item_or_not p
  misread_class (Number digits) = outside_or_not p digits
  misread_class (Name x) = redeclares_or_not p x
  misread_class t = inr (λ none. none)

  pub left_out_class : (t : Lexeme) → Decided (IsLeftOut (spelled p) t)
  left_out_class (Mark Other) = inl tt
  left_out_class (Mark LBracket) = inl tt
  left_out_class (Mark RBracket) = inl tt
  left_out_class (Mark Colon) = inl tt
  left_out_class (Number digits) = inl tt
  left_out_class (Word word) = inl tt
  left_out_class (Name x) = either_decided (conn_or_not p) (either_decided (clashes_or_not p x) (crowds_or_not p x))
  left_out_class (Mark RParen) = either_decided (net_or_not p) (either_decided (behind_or_not p) (index_or_not p))
  left_out_class t = inr (λ none. none)

-- some fault is that of the token
abbrev pub HasFault : Partial → Lexeme → ℕ → Type 0
HasFault p t at = (fault : NetFault) × IsFaultAt (spelled p) (record { lexeme = t; place = at }) fault

pub some_fault : (p : Partial) (n : ℕ) (t : Lexeme) → HasFault p t n
some_fault p n t = by (unknown_class p t) (pins_class p t) (misread_class p t) (left_out_class p t)
  where
    by : Decided (IsUnknown (spelled p) t) → Decided (HasBadPins (spelled p) t) → Decided (IsMisread (spelled p) t) → Decided (IsLeftOut (spelled p) t) → HasFault p t n
    by (inl unknown) pins misread left = (UnknownCell n, (refl, unknown))
    by (inr known) (inl pins) misread left = (BadPins n, (refl, known, pins))
    by (inr known) (inr fine) (inl misread) left = (Syntax n, (refl, known, fine, inl misread))
    by (inr known) (inr fine) (inr read) (inl left) = (Unsupported n, (refl, known, fine, read, left))
    by (inr known) (inr fine) (inr read) (inr kept) = (Syntax n, (refl, known, fine, inr kept))

-- a token is refused, or the list is derived and none breaks
abbrev Ends : List Placed → Type 0
Ends ts = ((fault : NetFault) × IsRefusedAt ts fault) ⊎ ((text : Text) × (lexemes ts ≡ text_phrase text) × NoneBreaks (lexemes ts))

-- the end of the text
at_the_end : (before : List Placed) (stands : AreRead before) (at : ℕ) → Ends (before ++ record { lexeme = End; place = at } ∷ [])
at_the_end before stands at = elim (end-cases stands.tree) [
  | inl none ↦ inl (Syntax at, stands-broken before stands [] (record { lexeme = End; place = at }) (Syntax at) (breaks-untaken stands.tree End none) (cut-end stands.tree at))
  | inr (head, items, is) ↦ let whole = stands-whole before stands at head items is in inr (record { head = head; items = items }, whole.0, whole.1)
]

-- one token, and then the others
at_token : (before : List Placed) (stands : AreRead before) (t : Placed) (others : List Placed) → ((q : Partial) → step stands.tree t.lexeme ≡ Some q → (Breaks (spelled stands.tree) t.lexeme → ⊥) → Ends ((before ++ t ∷ []) ++ others)) → Ends (before ++ t ∷ others)
at_token before stands t others rec = by (step stands.tree t.lexeme) refl
  where
    refused : Breaks (spelled stands.tree) t.lexeme → Ends (before ++ t ∷ others)
    refused breaks = let is = some_fault stands.tree t.place t.lexeme in inl (is.0, stands-broken before stands others t is.0 breaks is.1)

    by : (next : Option Partial) → step stands.tree t.lexeme ≡ next → Ends (before ++ t ∷ others)
    by None e = refused (breaks-untaken stands.tree t.lexeme e)
    by (Some q) e = elim (rule_or_not stands.tree t.lexeme) [
      | inl rule ↦ refused (inr rule)
      | inr free ↦ subst Ends (append_assoc before (t ∷ []) others) (rec q e (λ breaks. free (breaks-taken stands.tree q t.lexeme e breaks)))
    ]

read_on : (bytes : List ℕ) (before : List Placed) (stands : AreRead before) (tokens : List Token) (stop : Stop) → Ends (before ++ placed_in bytes tokens stop)
read_on bytes before stands [] at_end = at_the_end before stands (length bytes)
read_on bytes before stands [] (at_bad bad) = inl (Syntax bad, stands-bad before stands bad)
read_on bytes before stands (token ∷ tokens) stop =
    let t = placed_of bytes token in
    at_token before stands t (placed_in bytes tokens stop) (λ q e keeps. read_on bytes (before ++ t ∷ []) (stands-more before stands t q (grows stands.tree t.lexeme q e) keeps) tokens stop)

-- one item more in front of a tail
next_item : (head : Head) (some items : List Item) (item : Item) (tail : List Lexeme) → body_phrase head some ++ ((item_phrase item ++ flat_map item_phrase items) ++ tail) ≡ body_phrase head (some ++ item ∷ []) ++ (flat_map item_phrase items ++ tail)
next_item head some items item tail =
    ap (λ l. body_phrase head some ++ l) (append_assoc (item_phrase item) (flat_map item_phrase items) tail)
    ∙ sym (append_assoc (body_phrase head some) (item_phrase item) (flat_map item_phrase items ++ tail))
    ∙ ap (λ l. l ++ (flat_map item_phrase items ++ tail)) (flat_map_more item_phrase (head_phrase head) some item)

-- where no token breaks each instance is of a cell
some_cells : (head : Head) (some items : List Item) (tail : List Lexeme) → NoneBreaks (body_phrase head some ++ (flat_map item_phrase items ++ tail)) → (cells : List PartCell) × AreCellsOf (flat_map joined_in items) cells
some_cells head some [] tail none = ([], tt)
some_cells head some (Declares group ∷ items) tail none = some_cells head (some ++ Declares group ∷ []) items tail (subst NoneBreaks (next_item head some items (Declares group) tail) none)
some_cells head some (Joins cell name conns ∷ items) tail none =
    let (cells, are) = some_cells head (some ++ Joins cell name conns ∷ []) items tail (subst NoneBreaks (next_item head some items (Joins cell name conns) tail) none) in
    elim (cell_or_none cell) [
      | inl (kind, is) ↦ (record { kind = kind; name = name; pins = map (λ pin. unwrap_or (net_on (all_of conns) pin) []) (pins_of kind) } ∷ cells, (record { kind = is; name = refl; pins = refl }, are))
      | inr other ↦ absurd (none (body_phrase head some) (Name cell) _ refl (inr (inr (inr (inr (inl (record { head = head; items = some; is = refl; none = other })))))))
    ]

some_parts : (text : Text) → NoneBreaks (text_phrase text) → (parts : Parts) × Says text parts
some_parts text none =
    let head = text.head in
    let tail = Word EndModule ∷ End ∷ [] in
    let parted : text_phrase text ≡ body_phrase head [] ++ (flat_map item_phrase text.items ++ tail) = append_assoc (head_phrase head) (flat_map item_phrase text.items) tail ∙ ap (λ l. l ++ (flat_map item_phrase text.items ++ tail)) (sym (append-nil (head_phrase head))) in
    let (cells, are) = some_cells head [] text.items tail (subst NoneBreaks parted none) in
    (record { «module» = head.name; ports = flat_map (ports_said text) (header_of head); cells = cells }, record { title = refl; ports = refl; cells = are })

pub some_answer : (bytes : List ℕ) → ((parts : Parts) × Reads bytes parts) ⊎ ((fault : NetFault) × IsRefused bytes fault)
some_answer bytes =
    let (tokens, stop, are) = some_list bytes in
    let ts = placed_in bytes tokens stop in
    let lexed : IsLexed bytes ts = (tokens, stop, are, refl) in
    elim (read_on bytes [] stands-first tokens stop) [
      | inl (fault, is) ↦ inr (fault, (ts, lexed, is))
      | inr (text, derives, none) ↦
          let (parts, says) = some_parts text (subst NoneBreaks derives none) in
          inl (parts, (ts, lexed, record { text = text; derives = derives; unbroken = none; says = says }))
    ]
