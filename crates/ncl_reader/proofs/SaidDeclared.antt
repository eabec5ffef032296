-- Names and bits of what declarations say, and what is said was declared.
use Rattle.ncl_reader.proofs.Terms.{◌≡◌, ℕ, ◌+◌, ◌*◌, length, arith, List, [], ◌∷◌, ◌++◌, map, Option, refl, sym, ap, ◌∙◌, sum, Some, None, option_map, flat_map, sum_by, sum_by-append, sum_by-cons, sum-map, mul-suc, map-append, Span, Row, all_of, Direction, Lead, Gives, Wires, Range, Group, group_names, Conn, Item, Declares, Joins, Head, groups_of, span_of, range_width, directed_in, directed_by, group_bits, item_bits, Said, is_output, said_of, said_in_header, said_in, said_by, names_said, bits_said, span_width, ◌≤◌, inl, inr, subst, append_assoc, Contains, append-nil, length-append, Member, here, there, Member-append_cases, member_of_map, Member-from_Contains, member_of_flat_map, Module, EndModule, LParen, RParen, Comma, Semi, Lexeme, Word, Name, Mark, with_commas, row_phrase, name_phrase, direction_phrase, lead_phrase, spec_phrase, group_phrase, item_phrase, Listing, Empty, Names, Ansi, head_phrase, body_phrase, names_in, header_of, Stands, IsDeclared, AreDeclared, listing_phrase, IsDeclaring, flat_map_more}
use Rattle.ncl_reader.proofs.Facts.{Found, found-old, found-behind}

-- of two lists
pub names-append : (a b : List Said) → names_said (a ++ b) ≡ names_said a ++ names_said b
names-append a b = map-append (λ (s : Said). s.name) a b

pub bits-append : (a b : List Said) → bits_said (a ++ b) ≡ bits_said a + bits_said b
bits-append a b = sum_by-append (λ (s : Said). range_width s.range) a b

-- of one declaration
pub names-said_of : (direction : Direction) (range : Option Range) (names : List (List ℕ)) → names_said (said_of direction range names) ≡ names
names-said_of direction range [] = refl
names-said_of direction range (x ∷ names) = ap (λ l. x ∷ l) (names-said_of direction range names)

pub bits-said_of : (direction : Direction) (range : Option Range) (names : List (List ℕ)) → bits_said (said_of direction range names) ≡ range_width range * length names
bits-said_of direction range [] = omega arith
bits-said_of direction range (x ∷ names) =
    let first : bits_said (said_of direction range (x ∷ names)) ≡ range_width range + bits_said (said_of direction range names) = sum_by-cons (λ (s : Said). range_width s.range) (record { name = x; output = is_output direction; range = range }) (said_of direction range names) in
    let rest = bits-said_of direction range names in
    let more : range_width range * length (x ∷ names) ≡ range_width range * length names + range_width range = mul-suc (range_width range) (length names) in
    omega (arith, first, rest, more)

pub said_of-push : (direction : Direction) (range : Option Range) (names : List (List ℕ)) (x : List ℕ) → said_of direction range (names ++ x ∷ []) ≡ said_of direction range names ++ record { name = x; output = is_output direction; range = range } ∷ []
said_of-push direction range names x = map-append (λ y. record { name = y; output = is_output direction; range = range }) names (x ∷ [])

-- of those of the header
pub names-header : (groups : List (Group Direction)) → names_said (flat_map said_in_header groups) ≡ flat_map group_names groups
names-header [] = refl
names-header (group ∷ groups) = names-append (said_in_header group) (flat_map said_in_header groups) ∙ (λ i. names-said_of group.spec.lead group.spec.range (group_names group) i ++ names-header groups i)

bits_flat : {X : Type 0} (f : X → List Said) (bits : X → ℕ) → ((x : X) → bits_said (f x) ≡ bits x) → (xs : List X) → bits_said (flat_map f xs) ≡ sum_by bits xs
bits_flat f bits one [] = refl
bits_flat f bits one (x ∷ xs) = bits-append (f x) (flat_map f xs) ∙ (λ i. one x i + bits_flat f bits one xs i) ∙ sym (sum_by-cons bits x xs)

pub bits-header : (groups : List (Group Direction)) → bits_said (flat_map said_in_header groups) ≡ sum (map group_bits groups)
bits-header groups = bits_flat said_in_header group_bits (λ group. bits-said_of group.spec.lead group.spec.range (group_names group)) groups ∙ sym (sum-map group_bits groups)

-- of items
abbrev declared_by : Lead → Option Range → Row (List ℕ) → Item
declared_by lead range names = Declares (record { spec = record { lead = lead; range = range }; names = names })

said-item : {A : Type 0} (of_said : List Said → A) (of_item : Item → A) → ((direction : Direction) (range : Option Range) (names : Row (List ℕ)) → of_said (said_of direction range (all_of names)) ≡ of_item (declared_by (Gives direction) range names)) → ((range : Option Range) (names : Row (List ℕ)) → of_said [] ≡ of_item (declared_by Wires range names)) → ((cell name : List ℕ) (conns : Row Conn) → of_said [] ≡ of_item (Joins cell name conns)) → (item : Item) → of_said (said_in item) ≡ of_item item
said-item of_said of_item gives wires joins (Joins cell name conns) = joins cell name conns
said-item of_said of_item gives wires joins (Declares group) = by group.spec.lead
  where
    by : (lead : Lead) → of_said (said_in (declared_by lead group.spec.range group.names)) ≡ of_item (declared_by lead group.spec.range group.names)
    by (Gives direction) = gives direction group.spec.range group.names
    by Wires = wires group.spec.range group.names

names-item : (item : Item) → names_said (said_in item) ≡ directed_in item
names-item = said-item names_said directed_in (λ direction range names. names-said_of direction range (all_of names)) (λ range names. refl) (λ cell name conns. refl)

bits-item : (item : Item) → bits_said (said_in item) ≡ item_bits item
bits-item = said-item bits_said item_bits (λ direction range names. bits-said_of direction range (all_of names)) (λ range names. refl) (λ cell name conns. refl)

pub names-items : (items : List Item) → names_said (flat_map said_in items) ≡ flat_map directed_in items
names-items [] = refl
names-items (item ∷ items) = names-append (said_in item) (flat_map said_in items) ∙ (λ i. names-item item i ++ names-items items i)

pub bits-items : (items : List Item) → bits_said (flat_map said_in items) ≡ sum (map item_bits items)
bits-items items = bits_flat said_in item_bits bits-item items ∙ sym (sum-map item_bits items)

-- of a head and items
pub names-said_by : (head : Head) (items : List Item) → names_said (said_by (record { head = head; items = items })) ≡ directed_by head items
names-said_by head items = names-append (flat_map said_in_header (groups_of head.ports)) (flat_map said_in items) ∙ (λ i. names-header (groups_of head.ports) i ++ names-items items i)

pub bits-said_by : (head : Head) (items : List Item) → bits_said (said_by (record { head = head; items = items })) ≡ sum (map group_bits (groups_of head.ports)) + sum (map item_bits items)
bits-said_by head items = bits-append (flat_map said_in_header (groups_of head.ports)) (flat_map said_in items) ∙ (λ i. bits-header (groups_of head.ports) i + bits-items items i)

-- one more
width-span : (range : Option Range) (span : Option Span) → option_map span_of range ≡ span → range_width range ≡ span_width span
width-span None span same = ap span_width same
width-span (Some range) span same = ap span_width same

pub bits-push : (said : List Said) (s : Said) (span : Option Span) → option_map span_of s.range ≡ span → bits_said (said ++ s ∷ []) ≡ bits_said said + span_width span
bits-push said s span same = let more = bits-append said (s ∷ []) in let last : bits_said (s ∷ []) ≡ range_width s.range + 0 = sum_by-cons (λ (r : Said). range_width r.range) s [] in let one = width-span s.range span same in omega (arith, more, last, one)

-- the lexemes up to `endmodule`
abbrev pub whole : Head → List Item → List Lexeme
whole head items = body_phrase head items ++ Word EndModule ∷ []

-- a name of one of a row, by what stands in front of it there
found_row : {X : Type 0} (phrase : X → List Lexeme) (P : List Lexeme → Type 0) (y : List ℕ) (xs : List X) (last x : X) → Member x (xs ++ last ∷ []) → ((before : List X) → Found (λ f. P (with_commas phrase before ++ f)) y (phrase x)) → Found P y (with_commas phrase xs ++ phrase last)
found_row phrase P y [] last x here found = found []
found_row phrase P y [] last x (there none) found = elim none [ ]
found_row phrase P y (z ∷ xs) last x here found =
    let one = phrase x ++ Mark Comma ∷ [] in
    found-old P y (one ++ with_commas phrase xs) (phrase last) (found-old P y one (with_commas phrase xs) (found-old P y (phrase x) (Mark Comma ∷ []) (found [])))
found_row phrase P y (z ∷ xs) last x (there among) found =
    let one = phrase z ++ Mark Comma ∷ [] in
    subst (Found P y) (sym (append_assoc one (with_commas phrase xs) (phrase last)))
    (found-behind P y one (with_commas phrase xs ++ phrase last) (found_row phrase (λ f. P (one ++ f)) y xs last x among (λ before.
    let (f, r, e, holds) = found (z ∷ before) in (f, r, e, subst P (append_assoc one (with_commas phrase before) f) holds))))

found_name : (P : List Lexeme → Type 0) (row : Row (List ℕ)) (x : List ℕ) → Member x (all_of row) → ((names : List (List ℕ)) → P (with_commas name_phrase names)) → Found P x (row_phrase name_phrase row)
found_name P row x among holds = found_row name_phrase P x row.before row.last x among (λ names. ([], [], refl, subst P (sym (append-nil (with_commas name_phrase names))) (holds names)))

-- so of items
found_item : (P : List Lexeme → Type 0) (y : List ℕ) (items : List Item) (item : Item) → Member item items → ((before : List Item) → Found (λ f. P (flat_map item_phrase before ++ f)) y (item_phrase item)) → Found P y (flat_map item_phrase items)
found_item P y (z ∷ items) item here found = found-old P y (item_phrase item) (flat_map item_phrase items) (found [])
found_item P y (z ∷ items) item (there among) found = found-behind P y (item_phrase z) (flat_map item_phrase items) (found_item (λ f. P (item_phrase z ++ f)) y items item among (λ before.
    let (f, r, e, holds) = found (z ∷ before) in (f, r, e, subst P (append_assoc (item_phrase z) (flat_map item_phrase before) f) holds)))
found_item P y [] item among found = elim among [ ]

-- a name between the parentheses of a header
found_listed : (P : List Lexeme → Type 0) (y name : List ℕ) (ports : Listing) (items : List Item) → Found (λ f. P (Word Module ∷ Name name ∷ Mark LParen ∷ f)) y (listing_phrase ports) → Found P y (whole (record { name = name; ports = Some ports }) items)
found_listed P y name ports items found =
    let front : List Lexeme = Word Module ∷ Name name ∷ Mark LParen ∷ [] in
    let closed = found-old _ y (listing_phrase ports ++ Mark RParen ∷ []) (Mark Semi ∷ []) (found-old (λ f. P (front ++ f)) y (listing_phrase ports) (Mark RParen ∷ []) found) in
    found-old P y _ (Word EndModule ∷ []) (found-old P y _ (flat_map item_phrase items) (found-behind P y front _ closed))

-- a name of a declaration of the header, and of one of an item
header_declares : (name : List ℕ) (ports : Option Listing) (items : List Item) (group : Group Direction) (x : List ℕ) → Member group (groups_of ports) → Member x (group_names group) → IsDeclared (whole (record { name = name; ports = ports }) items) x group.spec.range
header_declares name (Some (Ansi row)) items group x among stands =
    found_listed (λ l. IsDeclaring l group.spec.range) x name (Ansi row) items (found_row (group_phrase direction_phrase) _ x row.before row.last group among (λ before.
    found-behind _ x (spec_phrase direction_phrase group.spec) _ (found_name _ group.names x stands (λ names. inl (name, before, group.spec.lead, names, refl)))))
header_declares name ports items group x among stands = elim among [ ]

item_declares : (head : Head) (items : List Item) (group : Group Lead) (x : List ℕ) → Member (Declares group) items → Member x (group_names group) → IsDeclared (whole head items) x group.spec.range
item_declares head items group x among stands =
    let P : List Lexeme → Type 0 = λ l. IsDeclaring l group.spec.range in
    let h = head_phrase head in
    let s = spec_phrase lead_phrase group.spec in
    found-old P x (body_phrase head items) (Word EndModule ∷ []) (found-behind P x h (flat_map item_phrase items) (found_item (λ f. P (h ++ f)) x items (Declares group) among (λ before.
    found-old _ x (group_phrase lead_phrase group) (Mark Semi ∷ []) (found-behind (λ f. P (h ++ (flat_map item_phrase before ++ f))) x s _ (found_name _ group.names x stands (λ names.
    subst P (append_assoc h (flat_map item_phrase before) (s ++ with_commas name_phrase names)) (inr (head, before, group.spec.lead, names, refl))))))))

-- what a declaration says, it says of its names
said_member : (direction : Direction) (range : Option Range) (names : List (List ℕ)) (s : Said) → Member s (said_of direction range names) → Member s.name names × (s.range ≡ range)
said_member direction range names s among =
    let (x, stands, is) = member_of_map _ names s among in
    (subst (λ (r : Said). Member r.name names) is stands, ap (λ (r : Said). r.range) (sym is))

said_led : (lead : Lead) (range : Option Range) (names : Row (List ℕ)) (s : Said) → Member s (said_in (Declares (record { spec = record { lead = lead; range = range }; names = names }))) → Member s.name (all_of names) × (s.range ≡ range)
said_led (Gives direction) range names s among = said_member direction range (all_of names) s among
said_led Wires range names s among = elim among [ ]

said_here : (head : Head) (items : List Item) (item : Item) (s : Said) → Member item items → Member s (said_in item) → IsDeclared (whole head items) s.name s.range
said_here head items (Declares group) s among is =
    let (stands, same) = said_led group.spec.lead group.spec.range group.names s is in
    subst (IsDeclared (whole head items) s.name) (sym same) (item_declares head items group s.name among stands)
said_here head items (Joins cell name conns) s among is = elim is [ ]

-- what is said of a port was declared
pub said_declared : (head : Head) (items : List Item) → AreDeclared (whole head items) (said_by (record { head = head; items = items }))
said_declared head items s found = elim (Member-append_cases s (flat_map said_in_header (groups_of head.ports)) (flat_map said_in items) (Member-from_Contains (said_by (record { head = head; items = items })) s found)) [
  | inl front ↦
      let (group, among, is) = member_of_flat_map said_in_header (groups_of head.ports) s front in
      let (stands, same) = said_member group.spec.lead group.spec.range (group_names group) s is in
      subst (IsDeclared (whole head items) s.name) (sym same) (header_declares head.name head.ports items group s.name among stands)
  | inr back ↦
      let (item, among, is) = member_of_flat_map said_in items s back in
      said_here head items item s among is
]

-- the names of a header stand
stand_in : (name : List ℕ) (ports : Option Listing) (items : List Item) (x : List ℕ) → Member x (names_in ports) → Stands (whole (record { name = name; ports = ports }) items) x
stand_in name (Some (Names row)) items x among =
    let (front, rest, e, u) = found_listed (λ l. Unit {0}) x name (Names row) items (found_name (λ l. Unit {0}) row x among (λ names. tt)) in
    (front, rest, e)
stand_in name (Some (Ansi row)) items x among =
    let (group, stands, is) = member_of_flat_map group_names (all_of row) x among in
    let (front, rest, e, declares) = header_declares name (Some (Ansi row)) items group x stands is in
    (front, rest, e)
stand_in name ports items x among = elim among [ ]

pub header_stands : (head : Head) (items : List Item) (x : List ℕ) → Contains (header_of head) x → Stands (whole head items) x
header_stands head items x found = stand_in head.name head.ports items x (Member-from_Contains (header_of head) x found)

-- the names of a header are no more than the lexemes
few_names : (names : List (List ℕ)) → length names ≤ length (with_commas name_phrase names)
few_names [] = omega arith
few_names (x ∷ names) = omega (arith, few_names names)

few_append : {X Y : Type 0} (a c : List X) (b d : List Y) → length a ≤ length b → length c ≤ length d → length (a ++ c) ≤ length (b ++ d)
few_append a c b d front back = omega (arith, length-append a c, length-append b d, front, back)

few_row : (row : Row (List ℕ)) → length (all_of row) ≤ length (row_phrase name_phrase row)
few_row row = few_append row.before (row.last ∷ []) (with_commas name_phrase row.before) (Name row.last ∷ []) (few_names row.before) (omega arith)

few_group : (group : Group Direction) → length (group_names group) ≤ length (group_phrase direction_phrase group)
few_group group = omega (arith, few_row group.names, length-append (spec_phrase direction_phrase group.spec) (row_phrase name_phrase group.names))

few_groups : (groups : List (Group Direction)) → length (flat_map group_names groups) ≤ length (with_commas (group_phrase direction_phrase) groups)
few_groups [] = omega arith
few_groups (group ∷ groups) =
    let one = group_phrase direction_phrase group in
    few_append (group_names group) (flat_map group_names groups) (one ++ Mark Comma ∷ []) _ (omega (arith, few_group group, length-append one (Mark Comma ∷ []))) (few_groups groups)

few_ansi : (row : Row (Group Direction)) → length (flat_map group_names (all_of row)) ≤ length (row_phrase (group_phrase direction_phrase) row)
few_ansi row = subst (λ l. length l ≤ length (row_phrase (group_phrase direction_phrase) row)) (flat_map_more group_names [] row.before row.last)
    (few_append (flat_map group_names row.before) (group_names row.last) (with_commas (group_phrase direction_phrase) row.before) (group_phrase direction_phrase row.last) (few_groups row.before) (few_group row.last))

inner_few : (l : List Lexeme) (a b c d : List Lexeme) → length l ≤ length ((((l ++ a) ++ b) ++ c) ++ d)
inner_few l a b c d = simp length-append (omega arith)

pub header_few : (name : List ℕ) (ports : Option Listing) (items : List Item) → length (names_in ports) ≤ length (whole (record { name = name; ports = ports }) items)
header_few name None items = omega arith
header_few name (Some Empty) items = omega arith
header_few name (Some (Names row)) items = omega (arith, few_row row, inner_few (row_phrase name_phrase row) (Mark RParen ∷ []) (Mark Semi ∷ []) (flat_map item_phrase items) (Word EndModule ∷ []))
header_few name (Some (Ansi row)) items = omega (arith, few_ansi row, inner_few (row_phrase (group_phrase direction_phrase) row) (Mark RParen ∷ []) (Mark Semi ∷ []) (flat_map item_phrase items) (Word EndModule ∷ []))
