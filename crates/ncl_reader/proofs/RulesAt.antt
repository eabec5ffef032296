-- The rules by the partial tree in front of a token.
pub use Rattle.ncl_reader.proofs.Terms.{[], ◌≡◌, ◌≢◌, ℕ, ◌+◌, ◌*◌, ◌<◌, length, List, ◌∷◌, ◌++◌, Some, map, sum, inl, inr, ◌⊎◌, refl, sym, ap, ◌∙◌, subst, Contains, append_assoc, false, flat_map, digits_value, same_Some, CellKind, cell_name_of, pins_of, EndModule, word_of, RParen, LBracket, Colon, Lexeme, Word, Name, Number, Mark, Row, Direction, direction_phrase, Lead, Gives, Wires, lead_phrase, Range, Spec, Group, group_phrase, group_names, with_commas, Item, Ansi, Head, header_of, body_phrase, in_ansi, at_declared, span_of, width, Covers, IsTooLarge, MOST_VECTOR_BITS, MOST_PORT_BITS, IsVector, directed_by, group_bits, item_bits, IsTooLong, IsOutside, Redeclares, Clashes, Crowds, BreaksRule, MayJoin, pins_in, LeadPart, led, coloned, GroupPart, leading, Partial, start, listing, heading, at_item, inside, declaring, dotted, netted, indexing, joined, header_spelled, spelled, Wire, Comma, Bool, true, Option, None, false≢true, cell_name_of-distinct, Conn, IsDeclaring, IsAtNet, MayStand, opened, said_in_header, said_of}
use Rattle.ncl_reader.proofs.Steps.{run, run-append, run-spelled, same_tree, front_run}
use Rattle.ncl_reader.proofs.Facts.{part_spec, part_names, part_at, at_part, told, untold, Of, some_of, heading_form, declaring_form, range_here, declaring-here}

-- a fact of what gives a direction
abbrev pub Given : Lead → Type 0 → Type 0
Given (Gives direction) P = P
Given Wires P = ⊥

pub some_given : (lead : Lead) (P : Type 0) → Given lead P → (direction : Direction) × (lead ≡ Gives direction) × P
some_given (Gives direction) P holds = (direction, refl, holds)
some_given Wires P none = absurd none

-- the name stands in a header of declarations
abbrev pub Headed : List (Group Direction) → List (List ℕ) → List ℕ → Type 0
Headed groups names x = Contains (flat_map group_names groups ++ names) x

-- the name is to have a direction, and isn't in the header or has one already
abbrev pub Misgiven : Head → List Item → Spec Lead → List (List ℕ) → List ℕ → Type 0
Misgiven head items spec names x = Given spec.lead (¬ Contains (header_of head) x ⊎ Contains (directed_by head items ++ names) x)

-- it makes the bits of ports too many
abbrev pub HeadCrowds : List (Group Direction) → Spec Direction → List (List ℕ) → List ℕ → Type 0
HeadCrowds groups spec names x =
    Of spec.range (λ range. ¬ Headed groups names x × (MOST_PORT_BITS < sum (map group_bits groups) + width (span_of range) * (length names + 1)))

abbrev pub ItemCrowds : Head → List Item → Spec Lead → List (List ℕ) → List ℕ → Type 0
ItemCrowds head items spec names x =
    Given spec.lead (Of spec.range (λ range. Contains (header_of head) x × (¬ Contains (directed_by head items ++ names) x
    × (MOST_PORT_BITS < sum (map item_bits items) + width (span_of range) * (length names + 1)))))

-- what a name breaks beside the rules of vectors
abbrev pub NameAt : Partial → List ℕ → Type 0
NameAt (listing title names) x = Contains names x
NameAt (heading title groups part) x = Of (part_spec part) (λ spec. Headed groups (part_names part) x)
NameAt (at_item head items) x = (kind : CellKind) → cell_name_of kind ≢ x
NameAt (inside head items (declaring part)) x = Of (part_spec part) (λ spec. Misgiven head items spec (part_names part) x)
NameAt (inside head items (dotted cell name conns)) x = (kind : CellKind) × (cell_name_of kind ≡ cell) × MayJoin false kind conns x
NameAt p x = ⊥

abbrev pub CrowdsAt : Partial → List ℕ → Type 0
CrowdsAt (heading title groups part) x = Of (part_spec part) (λ spec. HeadCrowds groups spec (part_names part) x)
CrowdsAt (inside head items (declaring part)) x = Of (part_spec part) (λ spec. ItemCrowds head items spec (part_names part) x)
CrowdsAt p x = ⊥

-- what other tokens break
abbrev pub EndsAt : Partial → Type 0
EndsAt (at_item head items) = (port : List ℕ) × Contains (header_of head) port × ¬ Contains (directed_by head items) port
EndsAt p = ⊥

abbrev pub LateAt : Partial → Type 0
LateAt (at_item head items) = (groups : Row (Group Direction)) × (head.ports ≡ Some (Ansi groups))
LateAt p = ⊥

abbrev pub TooLong : List ℕ → List ℕ → Type 0
TooLong first digits = MOST_VECTOR_BITS < width (record { first = digits_value 10 first; last = digits_value 10 digits })

abbrev pub LongPart : {L : Type 0} → LeadPart L → List ℕ → Type 0
LongPart (coloned l first) digits = TooLong first digits
LongPart part digits = ⊥

abbrev pub LongAt : Partial → List ℕ → Type 0
LongAt (heading title groups (leading part)) digits = LongPart part digits
LongAt (inside head items (declaring (leading part))) digits = LongPart part digits
LongAt p digits = ⊥

abbrev pub OutsideAt : Partial → List ℕ → Type 0
OutsideAt (inside head items (indexing cell name conns pin net)) digits =
    (range : Range) × IsVector (spelled (inside head items (indexing cell name conns pin net))) net range
    × ¬ Covers (span_of range) (digits_value 10 digits)
OutsideAt p digits = ⊥

abbrev pub OpensAt : Partial → Type 0
OpensAt (inside head items (netted cell name conns pin net)) =
    (range : Range) → ¬ IsVector (spelled (inside head items (netted cell name conns pin net))) net range
OpensAt p = ⊥

abbrev pub ClosesAt : Partial → Type 0
ClosesAt (inside head items (netted cell name conns pin net)) =
    (range : Range) × IsVector (spelled (inside head items (netted cell name conns pin net))) net range
ClosesAt (inside head items (joined cell name conns conn)) =
    (kind : CellKind) × (cell_name_of kind ≡ cell) × ((pin : List ℕ) × Contains (pins_of kind) pin × ¬ Contains (pins_in (conns ++ conn ∷ [])) pin)
ClosesAt p = ⊥

-- the rules of vectors
abbrev pub Vectored : List Lexeme → List ℕ → Type 0
Vectored xs x = Redeclares xs x ⊎ (Clashes xs x ⊎ Crowds xs x)

abbrev pub BreaksAt : Partial → Lexeme → Type 0
BreaksAt p (Name x) = NameAt p x ⊎ Vectored (spelled p) x
BreaksAt p (Word EndModule) = EndsAt p
BreaksAt p (Word (word_of way)) = LateAt p
BreaksAt p (Number digits) = IsTooLarge digits ⊎ (LongAt p digits ⊎ OutsideAt p digits)
BreaksAt p (Mark LBracket) = OpensAt p
BreaksAt p (Mark RParen) = ClosesAt p
BreaksAt p t = ⊥

-- what holds of a tree holds of each that is spelled so
here : (P : Partial → Type 0) (p q : Partial) → spelled p ≡ spelled q → P q → P p
here P p q e holds = subst P (sym (same_tree p q e)) holds

headed : (F : Partial → Type 0) (P : Spec Direction → List (List ℕ) → Type 0) (p : Partial) (title : List ℕ) (groups : List (Group Direction)) (spec : Spec Direction) (names : List (List ℕ)) → ((part : GroupPart Direction) → Of (part_spec part) (λ s. P s (part_names part)) → F (heading title groups part)) → spelled p ≡ in_ansi title groups spec names → P spec names → F p
headed F P p title groups spec names there e holds =
    let (part, is) = part_at direction_phrase spec names in
    here F p (heading title groups part) (e ∙ sym (heading_form title groups part spec names is)) (there part (told direction_phrase P spec names part is holds))

declared : (F : Partial → Type 0) (P : Spec Lead → List (List ℕ) → Type 0) (p : Partial) (head : Head) (items : List Item) (spec : Spec Lead) (names : List (List ℕ)) → ((part : GroupPart Lead) → Of (part_spec part) (λ s. P s (part_names part)) → F (inside head items (declaring part))) → spelled p ≡ at_declared head items spec names → P spec names → F p
declared F P p head items spec names there e holds =
    let (part, is) = part_at lead_phrase spec names in
    here F p (inside head items (declaring part)) (e ∙ sym (declaring_form head items part spec names is)) (there part (told lead_phrase P spec names part is holds))

pub crowds-here : (p : Partial) (x : List ℕ) → Crowds (spelled p) x → CrowdsAt p x
crowds-here p x (inl c) = headed (λ q. CrowdsAt q x) (λ spec names. HeadCrowds c.groups spec names x) p c.title c.groups (record { lead = c.direction; range = Some c.range }) c.names (λ part holds. holds) c.is (c.new, c.many)
crowds-here p x (inr c) = declared (λ q. CrowdsAt q x) (λ spec names. ItemCrowds c.head c.items spec names x) p c.head c.items (record { lead = Gives c.direction; range = Some c.range }) c.names (λ part holds. holds) c.is (c.stands, (c.new, c.many))

-- a name of a declaration that makes them too many
pub crowds-head : (title : List ℕ) (groups : List (Group Direction)) (spec : Spec Direction) (names : List (List ℕ)) (x : List ℕ) (range : Range) → spec.range ≡ Some range → ¬ Headed groups names x → MOST_PORT_BITS < sum (map group_bits groups) + width (span_of range) * (length names + 1) → Crowds (in_ansi title groups spec names) x
crowds-head title groups spec names x range is new many =
    inl (record { title = title; groups = groups; direction = spec.lead; range = range; names = names; is = ap (λ r. in_ansi title groups (record { lead = spec.lead; range = r }) names) is; new = new; many = many })

pub crowds-item : (head : Head) (items : List Item) (spec : Spec Lead) (names : List (List ℕ)) (x : List ℕ) (direction : Direction) (range : Range) → spec.lead ≡ Gives direction → spec.range ≡ Some range → Contains (header_of head) x → ¬ Contains (directed_by head items ++ names) x → MOST_PORT_BITS < sum (map item_bits items) + width (span_of range) * (length names + 1) → Crowds (at_declared head items spec names) x
crowds-item head items spec names x direction range gives is stands new many =
    inr (record { head = head; items = items; direction = direction; range = range; names = names; is = λ i. at_declared head items (record { lead = gives i; range = is i }) names; stands = stands; new = new; many = many })

pub crowds-back : (p : Partial) (x : List ℕ) → CrowdsAt p x → Crowds (spelled p) x
crowds-back (heading title groups part) x holds =
    let (spec, says, of) = some_of (part_spec part) _ holds in
    let (range, is, (new, many)) = some_of spec.range _ of in
    subst (λ l. Crowds l x) (sym (heading_form title groups part spec (part_names part) (at_part direction_phrase part spec says))) (crowds-head title groups spec (part_names part) x range is new many)
crowds-back (inside head items (declaring part)) x holds =
    let (spec, says, given) = some_of (part_spec part) _ holds in
    let (direction, gives, of) = some_given spec.lead _ given in
    let (range, is, (stands, (new, many))) = some_of spec.range _ of in
    subst (λ l. Crowds l x) (sym (declaring_form head items part spec (part_names part) (at_part lead_phrase part spec says))) (crowds-item head items spec (part_names part) x direction range gives is stands new many)
crowds-back p x none = absurd none

-- the last number of a range is next where a tree says so
long-run : (r p : Partial) (first digits : List ℕ) → run r (Mark LBracket ∷ Number first ∷ Mark Colon ∷ []) ≡ Some p → TooLong first digits → LongAt p digits
long-run (heading title groups (leading (led l))) p first digits e long = subst (λ q. LongAt q digits) (same_Some _ p e) long
long-run (inside head items (declaring (leading (led l)))) p first digits e long = subst (λ q. LongAt q digits) (same_Some _ p e) long
long-run r p first digits e long = absurd cc

pub long-here : (p : Partial) (digits : List ℕ) → IsTooLong (spelled p) digits → LongAt p digits
long-here p digits (first, (front, e), long) =
    let last : List Lexeme = Mark LBracket ∷ Number first ∷ Mark Colon ∷ [] in
    let goes = ap (run start) (sym e) ∙ run-spelled p in
    let (r, at) = front_run start p front last goes in
    long-run r p first digits (sym (run-append start r front last at) ∙ goes) long

pub long-back : (p : Partial) (digits : List ℕ) → LongAt p digits → IsTooLong (spelled p) digits
long-back (heading title groups (leading (coloned l first))) digits long = (first, (header_spelled title (with_commas (group_phrase direction_phrase) groups ++ direction_phrase l), ap (header_spelled title) (sym (append_assoc (with_commas (group_phrase direction_phrase) groups) (direction_phrase l) _))), long)
long-back (inside head items (declaring (leading (coloned l first)))) digits long = (first, (body_phrase head items ++ lead_phrase l, sym (append_assoc (body_phrase head items) (lead_phrase l) _)), long)
long-back p digits none = absurd none

pub outside-here : (p : Partial) (digits : List ℕ) → IsOutside (spelled p) digits → OutsideAt p digits
outside-here p digits (net, range, (head, items, cell, name, conns, pin, is), vector, fails) =
    here (λ q. OutsideAt q digits) p (inside head items (indexing cell name conns pin net)) is (range, subst (λ l. IsVector l net range) is vector, fails)

pub outside-back : (p : Partial) (digits : List ℕ) → OutsideAt p digits → IsOutside (spelled p) digits
outside-back (inside head items (indexing cell name conns pin net)) digits (range, vector, fails) = (net, range, (head, items, cell, name, conns, pin, refl), vector, fails)
outside-back p digits none = absurd none

-- a token breaks a rule where a tree says so
pub breaks-here : (p : Partial) (t : Lexeme) → BreaksRule (spelled p) t → BreaksAt p t
breaks-here p (Name x) (inl b) = inl (here (λ q. NameAt q x) p (listing b.title b.names) b.is b.stands)
breaks-here p (Name x) (inr (inl b)) = inl (headed (λ q. NameAt q x) (λ spec names. Headed b.groups names x) p b.title b.groups b.spec b.names (λ part holds. holds) b.is b.stands)
breaks-here p (Name x) (inr (inr (inl b))) = inl (declared (λ q. NameAt q x) (λ spec names. Misgiven b.head b.items spec names x) p b.head b.items (record { lead = Gives b.direction; range = b.range }) b.names (λ part holds. holds) b.is b.breaks)
breaks-here p (Name x) (inr (inr (inr (inl b)))) = inl (here (λ q. NameAt q x) p (at_item b.head b.items) b.is b.none)
breaks-here p (Name x) (inr (inr (inr (inr (inl b))))) = inl (here (λ q. NameAt q x) p (inside b.head b.items (dotted (cell_name_of b.kind) b.name b.conns)) b.is (b.kind, refl, b.breaks))
breaks-here p (Name x) (inr (inr (inr (inr (inr b))))) = inr b
breaks-here p (Word EndModule) b = here EndsAt p (at_item b.head b.items) b.is (b.port, b.stands, b.undirected)
breaks-here p (Word (word_of way)) b = here LateAt p (at_item b.head b.items) b.is (b.groups, b.ansi)
breaks-here p (Number digits) (inl large) = inl large
breaks-here p (Number digits) (inr (inl long)) = inr (inl (long-here p digits long))
breaks-here p (Number digits) (inr (inr outside)) = inr (inr (outside-here p digits outside))
breaks-here p (Mark LBracket) (net, (head, items, cell, name, conns, pin, is), none) =
    here OpensAt p (inside head items (netted cell name conns pin net)) is (subst (λ l. (range : Range) → ¬ IsVector l net range) is none)
breaks-here p (Mark RParen) (inl (net, range, (head, items, cell, name, conns, pin, is), vector)) =
    here ClosesAt p (inside head items (netted cell name conns pin net)) is (range, subst (λ l. IsVector l net range) is vector)
breaks-here p (Mark RParen) (inr b) = here ClosesAt p (inside b.head b.items (joined (cell_name_of b.kind) b.name b.conns.before b.conns.last)) b.is (b.kind, refl, (b.pin, b.stands, b.unjoined))
breaks-here p t none = absurd none

name-back : (p : Partial) (x : List ℕ) → NameAt p x → BreaksRule (spelled p) (Name x)
name-back (listing title names) x stands = inl (record { title = title; names = names; is = refl; stands = stands })
name-back (heading title groups part) x holds =
    let (spec, says, stands) = some_of (part_spec part) _ holds in
    inr (inl (record { title = title; groups = groups; spec = spec; names = part_names part; is = heading_form title groups part spec (part_names part) (at_part direction_phrase part spec says); stands = stands }))
name-back (at_item head items) x none = inr (inr (inr (inl (record { head = head; items = items; is = refl; none = none }))))
name-back (inside head items (declaring part)) x holds =
    let (spec, says, given) = some_of (part_spec part) _ holds in
    let (direction, gives, breaks) = some_given spec.lead _ given in
    let form = declaring_form head items part spec (part_names part) (at_part lead_phrase part spec says) in
    inr (inr (inl (record { head = head; items = items; direction = direction; range = spec.range; names = part_names part; is = form ∙ ap (λ l. at_declared head items (record { lead = l; range = spec.range }) (part_names part)) gives; breaks = breaks })))
name-back (inside head items (dotted cell name conns)) x (kind, is, breaks) =
    inr (inr (inr (inr (inl (record { head = head; items = items; kind = kind; name = name; conns = conns; is = ap (λ c. spelled (inside head items (dotted c name conns))) (sym is); breaks = breaks })))))
name-back p x none = absurd none

pub breaks-back : (p : Partial) (t : Lexeme) → BreaksAt p t → BreaksRule (spelled p) t
breaks-back p (Name x) (inl name) = name-back p x name
breaks-back p (Name x) (inr vectored) = inr (inr (inr (inr (inr vectored))))
breaks-back (at_item head items) (Word EndModule) (port, stands, undirected) = record { head = head; items = items; is = refl; port = port; stands = stands; undirected = undirected }
breaks-back (at_item head items) (Word (word_of way)) (groups, ansi) = record { head = head; items = items; is = refl; groups = groups; ansi = ansi }
breaks-back p (Word Wire) none = absurd none
breaks-back p (Number digits) (inl large) = inl large
breaks-back p (Number digits) (inr (inl long)) = inr (inl (long-back p digits long))
breaks-back p (Number digits) (inr (inr outside)) = inr (inr (outside-back p digits outside))
breaks-back (inside head items (netted cell name conns pin net)) (Mark LBracket) none = (net, (head, items, cell, name, conns, pin, refl), none)
breaks-back (inside head items (netted cell name conns pin net)) (Mark RParen) (range, vector) = inl (net, range, (head, items, cell, name, conns, pin, refl), vector)
breaks-back (inside head items (joined cell name conns conn)) (Mark RParen) (kind, is, (pin, stands, unjoined)) =
    inr (record { head = head; items = items; kind = kind; name = name; conns = record { before = conns; last = conn }; is = ap (λ c. spelled (inside head items (joined c name conns conn))) (sym is); pin = pin; stands = stands; unjoined = unjoined })
breaks-back p (Mark Comma) none = absurd none
breaks-back p t none = absurd none

-- a name that is declared, by the form of what stands in front of it
module _ {N : Type 0} (p : Partial) (xs : List Lexeme) (form : spelled p ≡ xs) (x : List ℕ) where
  rule_in : (NameAt p x → N) → BreaksRule xs (Name x) → N ⊎ Vectored xs x
  rule_in name b = subst (λ l. N ⊎ Vectored l x) form (by (breaks-here p (Name x) (subst (λ l. BreaksRule l (Name x)) (sym form) b)))
    where
      by : BreaksAt p (Name x) → N ⊎ Vectored (spelled p) x
      by (inl is) = inl (name is)
      by (inr is) = inr is

pub headed_rule : (title : List ℕ) (groups : List (Group Direction)) (spec : Spec Direction) (names : List (List ℕ)) (x : List ℕ) → BreaksRule (in_ansi title groups spec names) (Name x) → Headed groups names x ⊎ Vectored (in_ansi title groups spec names) x
headed_rule title groups spec names x =
    let (part, is) = part_at direction_phrase spec names in
    rule_in (heading title groups part) (in_ansi title groups spec names) (heading_form title groups part spec names is) x (untold direction_phrase (λ s ns. Headed groups ns x) spec names part is)

pub declared_rule : (head : Head) (items : List Item) (spec : Spec Lead) (names : List (List ℕ)) (x : List ℕ) → BreaksRule (at_declared head items spec names) (Name x) → Misgiven head items spec names x ⊎ Vectored (at_declared head items spec names) x
declared_rule head items spec names x =
    let (part, is) = part_at lead_phrase spec names in
    rule_in (inside head items (declaring part)) (at_declared head items spec names) (declaring_form head items part spec names is) x (untold lead_phrase (λ s ns. Misgiven head items s ns x) spec names part is)

pub crowds_headed : (title : List ℕ) (groups : List (Group Direction)) (spec : Spec Direction) (names : List (List ℕ)) (x : List ℕ) → Crowds (in_ansi title groups spec names) x → (range : Range) × (spec.range ≡ Some range) × (¬ Headed groups names x × (MOST_PORT_BITS < sum (map group_bits groups) + width (span_of range) * (length names + 1)))
crowds_headed title groups spec names x c =
    let (part, is) = part_at direction_phrase spec names in
    some_of spec.range _ (untold direction_phrase (λ s ns. HeadCrowds groups s ns x) spec names part is (crowds-here (heading title groups part) x (subst (λ l. Crowds l x) (sym (heading_form title groups part spec names is)) c)))

pub crowds_declared : (head : Head) (items : List Item) (spec : Spec Lead) (names : List (List ℕ)) (x : List ℕ) → Crowds (at_declared head items spec names) x → (direction : Direction) × (spec.lead ≡ Gives direction) × ((range : Range) × (spec.range ≡ Some range) × (Contains (header_of head) x × (¬ Contains (directed_by head items ++ names) x × (MOST_PORT_BITS < sum (map item_bits items) + width (span_of range) * (length names + 1)))))
crowds_declared head items spec names x c =
    let (part, is) = part_at lead_phrase spec names in
    let (direction, gives, of) = some_given spec.lead _ (untold lead_phrase (λ s ns. ItemCrowds head items s ns x) spec names part is (crowds-here (inside head items (declaring part)) x (subst (λ l. Crowds l x) (sym (declaring_form head items part spec names is)) c))) in
    (direction, gives, some_of spec.range _ of)

-- a name isn't declared where the tree has no range for it
pub not_declaring : (p : Partial) → range_here p ≡ None → (range : Option Range) → IsDeclaring (spelled p) range → ⊥
not_declaring p none range declares = let e : None ≡ Some range = sym none ∙ declaring-here p range declares in absurd cc

-- a name that crowds is declared
pub crowds_declares : (xs : List Lexeme) (x : List ℕ) → Crowds xs x → (range : Range) × IsDeclaring xs (Some range)
crowds_declares xs x (inl c) = (c.range, inl (c.title, c.groups, c.direction, c.names, c.is))
crowds_declares xs x (inr c) = (c.range, inr (c.head, c.items, Gives c.direction, c.names, c.is))

-- trees in front of which a net may stand
abbrev pub opens : Partial → Bool
opens (inside head items (opened cell name conns pin)) = true
opens p = false

pub not_net : (p : Partial) → opens p ≡ false → IsAtNet (spelled p) → ⊥
not_net p none (head, items, cell, name, conns, pin, is) = false≢true (sym none ∙ ap opens (same_tree p (inside head items (opened cell name conns pin)) is))

-- the rule of a name that clashes
pub clash_rule : (xs : List Lexeme) (x : List ℕ) → Clashes xs x → BreaksRule xs (Name x)
clash_rule xs x clashes = inr (inr (inr (inr (inr (inr (inl clashes))))))

-- a name that isn't declared breaks what its tree says or clashes
pub plain_rule : (p : Partial) (x : List ℕ) → range_here p ≡ None → (NameAt p x → ⊥) → (Clashes (spelled p) x → ⊥) → BreaksAt p (Name x) → ⊥
plain_rule p x none name clashes (inl b) = name b
plain_rule p x none name clashes (inr (inl (range, declares, why))) = not_declaring p none range declares
plain_rule p x none name clashes (inr (inr (inl b))) = clashes b
plain_rule p x none name clashes (inr (inr (inr c))) = let (range, declares) = crowds_declares (spelled p) x c in not_declaring p none (Some range) declares

pub may_stand : (p : Partial) (x : List ℕ) → range_here p ≡ None → (NameAt p x → ⊥) → MayStand true (spelled p) x
may_stand p x none name clear breaks = plain_rule p x none name clear (breaks-here p (Name x) breaks)

-- a pin that may be joined, and an instance of which no pin is left
module _ (head : Head) (items : List Item) (kind : CellKind) (name : List ℕ) (conns : List Conn) where
  pub pin_free : (x : List ℕ) → MayJoin true kind conns x → NameAt (inside head items (dotted (cell_name_of kind) name conns)) x → ⊥
  pin_free x may (other, same, breaks) = elim breaks [
    | inl absent ↦ absent (subst (λ k. Contains (pins_of k) x) (cell_name_of-distinct kind other (sym same)) may.0)
    | inr again ↦ may.1 again
  ]

  pub close_free : (conn : Conn) → ((x : List ℕ) → Contains (pins_of kind) x → Contains (pins_in (conns ++ conn ∷ [])) x) → ClosesAt (inside head items (joined (cell_name_of kind) name conns conn)) → ⊥
  close_free conn all (other, same, (pin, stands, unjoined)) = unjoined (all pin (subst (λ k. Contains (pins_of k) pin) (cell_name_of-distinct other kind same) stands))
