-- What is kept of a header and of items, with a name or a declaration more.
pub use Rattle.ncl_reader.proofs.Terms.{[], ◌≡◌, ℕ, ◌+◌, ◌*◌, ◌<◌, ◌≤◌, List, ◌∷◌, ◌++◌, length, map, sum, Bool, true, false, Option, Some, None, inl, inr, ◌⊎◌, refl, sym, ap, ◌∙◌, subst, append_assoc, arith, Contains, flat_map, option_map, mul-suc, is_some, false≢true, same_Some, none-some, append-nil, flat_map_more, Draft, Span, Header, Lexeme, Name, in_ansi, at_declared, Row, all_of, Direction, Lead, Gives, Wires, Range, Spec, Group, group_names, Listing, Ansi, Head, Item, Declares, groups_of, header_of, span_of, width, range_width, MOST_PORT_BITS, directed_by, group_bits, item_bits, BreaksRule, Said, is_output, said_of, said_in_header, said_in, said_by, joined_in, Joined, AreCellsOf, IsHeader, names_said, bits_said, span_width, said_with, is_ansi, IsRead, IsGrouped, IsGroupedWith, IsBody, IsBodyWith, IsEarly, IsDeclaredNext, Led, IsSaid, lead_output, KeepsNames, IsDeclaring, Redeclares, Clashes, Contains-last, not, LacksWay}
use Rattle.ncl_reader.proofs.Among.{among_or_not}
use Rattle.ncl_reader.proofs.SaidDeclared.{names-append, bits-append, names-said_of, bits-said_of, said_of-push, names-header, bits-header, names-said_by, bits-said_by}
pub use Rattle.ncl_reader.proofs.RulesAt.{crowds-head, crowds-item, clash_rule, some_given, declared_rule, crowds_declared}

-- what is read doesn't depend on how its lists are named
pub read-along : (draft : Draft) (form other : Bool) (names ns : List (List ℕ)) (said ss : List Said) (cells cs : List Joined) → form ≡ other → names ≡ ns → said ≡ ss → cells ≡ cs → IsRead draft form names said cells → IsRead draft other ns ss cs
read-along draft form other names ns said ss cells cs forms same says cell_list read = record {
  ansi = read.ansi ∙ forms;
  header = subst (λ l. IsHeader draft.header ns l) says (subst (λ l. IsHeader draft.header l said) same read.header);
  cells = subst (λ l. AreCellsOf l draft.cells.items) cell_list read.cells;
}

-- a declaration of the header that begins, and one that ends
pub grouped-begins : (draft : Draft) (groups : List (Group Direction)) (spec : Spec Direction) → IsGrouped draft groups → IsGroupedWith draft groups spec []
grouped-begins draft groups spec = read-along draft true true _ _ _ _ [] [] refl (sym (append-nil (flat_map group_names groups))) (sym (append-nil (flat_map said_in_header groups))) refl

pub grouped-ends : (draft : Draft) (groups : List (Group Direction)) (spec : Spec Direction) (row : Row (List ℕ)) → IsGroupedWith draft groups spec (all_of row) → IsGrouped draft (groups ++ record { spec = spec; names = row } ∷ [])
grouped-ends draft groups spec row = read-along draft true true _ _ _ _ [] [] refl (flat_map_more group_names [] groups (record { spec = spec; names = row })) (flat_map_more said_in_header [] groups (record { spec = spec; names = row })) refl

pub header-ends : (draft : Draft) (groups : List (Group Direction)) (spec : Spec Direction) (row : Row (List ℕ)) → IsGroupedWith draft groups spec (all_of row) → IsBody draft (record { name = draft.title.now; ports = Some (Ansi (record { before = groups; last = record { spec = spec; names = row } })) }) []
header-ends draft groups spec row read = (refl, read-along draft true true _ _ _ _ [] [] refl refl (sym (append-nil (flat_map said_in_header (groups ++ record { spec = spec; names = row } ∷ [])))) refl (grouped-ends draft groups spec row read))

-- what a declaration of an item says
pub said_with-none : (spec : Spec Lead) → said_with spec [] ≡ []
said_with-none spec = by spec.lead spec.range
  where
    by : (lead : Lead) (range : Option Range) → said_with (record { lead = lead; range = range }) [] ≡ []
    by (Gives direction) range = refl
    by Wires range = refl

pub said_with-item : (spec : Spec Lead) (row : Row (List ℕ)) → said_with spec (all_of row) ≡ said_in (Declares (record { spec = spec; names = row }))
said_with-item spec row = by spec.lead spec.range
  where
    by : (lead : Lead) (range : Option Range) → said_with (record { lead = lead; range = range }) (all_of row) ≡ said_in (Declares (record { spec = record { lead = lead; range = range }; names = row }))
    by (Gives direction) range = refl
    by Wires range = refl

pub said_with-wire : (spec : Spec Lead) (names : List (List ℕ)) → spec.lead ≡ Wires → said_with spec names ≡ []
said_with-wire spec names wire = ap (λ l. said_with (record { lead = l; range = spec.range }) names) wire

pub said_with-gives : (spec : Spec Lead) (names : List (List ℕ)) (direction : Direction) → spec.lead ≡ Gives direction → said_with spec names ≡ said_of direction spec.range names
said_with-gives spec names direction gives = ap (λ l. said_with (record { lead = l; range = spec.range }) names) gives

-- a declaration of an item that begins, and one that ends
pub body-begins : (draft : Draft) (head : Head) (items : List Item) (spec : Spec Lead) → IsBody draft head items → IsBodyWith draft head items spec []
body-begins draft head items spec (title, read) =
    let said = said_by (record { head = head; items = items }) in
    (title, read-along draft (is_ansi head.ports) (is_ansi head.ports) _ _ _ _ _ _ refl refl (sym (append-nil said) ∙ ap (λ l. said ++ l) (sym (said_with-none spec))) refl read)

pub body-declares : (draft : Draft) (head : Head) (items : List Item) (spec : Spec Lead) (row : Row (List ℕ)) → IsBodyWith draft head items spec (all_of row) → IsBody draft head (items ++ Declares (record { spec = spec; names = row }) ∷ [])
body-declares draft head items spec row (title, read) =
    let item = Declares (record { spec = spec; names = row }) in
    let said = said_by (record { head = head; items = items }) in
    let says : said ++ said_with spec (all_of row) ≡ said_by (record { head = head; items = items ++ item ∷ [] }) = ap (λ l. said ++ l) (said_with-item spec row) ∙ flat_map_more said_in (flat_map said_in_header (groups_of head.ports)) items item in
    let cells : flat_map joined_in items ≡ flat_map joined_in (items ++ item ∷ []) = sym (append-nil (flat_map joined_in items)) ∙ flat_map_more joined_in [] items item in
    (title, read-along draft (is_ansi head.ports) (is_ansi head.ports) _ _ _ _ _ _ refl refl says cells read)

-- names and bits in the middle of a declaration
module _ (groups : List (Group Direction)) (spec : Spec Direction) (names : List (List ℕ)) where
  abbrev said : List Said
  said = flat_map said_in_header groups ++ said_of spec.lead spec.range names

  pub names-grouped : names_said said ≡ flat_map group_names groups ++ names
  names-grouped = names-append (flat_map said_in_header groups) (said_of spec.lead spec.range names) ∙ (λ i. names-header groups i ++ names-said_of spec.lead spec.range names i)

  -- with a name more
  pub bits-grouped_more : (range : Range) (span : Span) → spec.range ≡ Some range → span_of range ≡ span → bits_said said + width span ≡ sum (map group_bits groups) + width (span_of range) * (length names + 1)
  bits-grouped_more range span is same =
      let bits : bits_said said ≡ sum (map group_bits groups) + width (span_of range) * length names = bits-append (flat_map said_in_header groups) (said_of spec.lead spec.range names) ∙ (λ i. bits-header groups i + bits-said_of spec.lead spec.range names i) ∙ ap (λ r. sum (map group_bits groups) + range_width r * length names) is in
      let one : width (span_of range) ≡ width span = ap width same in
      let more : width (span_of range) * (length names + 1) ≡ width (span_of range) * length names + width (span_of range) = ap (λ n. width (span_of range) * n) (omega arith) ∙ mul-suc (width (span_of range)) (length names) in
      omega (arith, bits, one, more)

  pub said-grouped_more : (x : List ℕ) → (flat_map said_in_header groups ++ said_of spec.lead spec.range names) ++ record { name = x; output = is_output spec.lead; range = spec.range } ∷ [] ≡ flat_map said_in_header groups ++ said_of spec.lead spec.range (names ++ x ∷ [])
  said-grouped_more x = append_assoc (flat_map said_in_header groups) (said_of spec.lead spec.range names) _ ∙ ap (λ l. flat_map said_in_header groups ++ l) (sym (said_of-push spec.lead spec.range names x))

module _ (head : Head) (items : List Item) (spec : Spec Lead) (names : List (List ℕ)) (direction : Direction) (gives : spec.lead ≡ Gives direction) where
  abbrev told : List Said
  told = said_by (record { head = head; items = items }) ++ said_with spec names

  pub told-gives : told ≡ said_by (record { head = head; items = items }) ++ said_of direction spec.range names
  told-gives = ap (λ l. said_by (record { head = head; items = items }) ++ l) (said_with-gives spec names direction gives)

  pub names-body : names_said told ≡ directed_by head items ++ names
  names-body = ap names_said told-gives ∙ names-append (said_by (record { head = head; items = items })) (said_of direction spec.range names) ∙ (λ i. names-said_by head items i ++ names-said_of direction spec.range names i)

  -- behind a header without declarations
  pub bits-body : groups_of head.ports ≡ [] → (range : Range) (span : Span) → spec.range ≡ Some range → span_of range ≡ span → bits_said told + width span ≡ sum (map item_bits items) + width (span_of range) * (length names + 1)
  bits-body none range span is same =
      let bits : bits_said told ≡ (sum (map group_bits (groups_of head.ports)) + sum (map item_bits items)) + width (span_of range) * length names = ap bits_said told-gives ∙ bits-append (said_by (record { head = head; items = items })) (said_of direction spec.range names) ∙ (λ i. bits-said_by head items i + bits-said_of direction spec.range names i) ∙ ap (λ r. (sum (map group_bits (groups_of head.ports)) + sum (map item_bits items)) + range_width r * length names) is in
      let zero_bits : sum (map group_bits (groups_of head.ports)) ≡ 0 = ap (λ l. sum (map group_bits l)) none in
      let one : width (span_of range) ≡ width span = ap width same in
      let more : width (span_of range) * (length names + 1) ≡ width (span_of range) * length names + width (span_of range) = ap (λ n. width (span_of range) * n) (omega arith) ∙ mul-suc (width (span_of range)) (length names) in
      omega (arith, bits, zero_bits, one, more)

  pub told-more : (x : List ℕ) → told ++ record { name = x; output = is_output direction; range = spec.range } ∷ [] ≡ said_by (record { head = head; items = items }) ++ said_with spec (names ++ x ∷ [])
  told-more x =
      append_assoc (said_by (record { head = head; items = items })) (said_with spec names) _
      ∙ ap (λ l. said_by (record { head = head; items = items }) ++ l) (ap (λ l. l ++ record { name = x; output = is_output direction; range = spec.range } ∷ []) (said_with-gives spec names direction gives) ∙ sym (said_of-push direction spec.range names x) ∙ sym (said_with-gives spec (names ++ x ∷ []) direction gives))

-- a header without declarations has none
pub no_groups : (ports : Option Listing) → is_ansi ports ≡ false → groups_of ports ≡ []
no_groups (Some (Ansi groups)) e = absurd cc
no_groups ports e = refl

-- ports have too many bits only by those of a range
few-ranged : (range : Option Range) (span : Option Span) (bits : ℕ) → bits ≤ MOST_PORT_BITS → option_map span_of range ≡ span → ((r : Range) (s : Span) → range ≡ Some r → span_of r ≡ s → MOST_PORT_BITS < bits + width s → ⊥) → MOST_PORT_BITS < bits + span_width span → ⊥
few-ranged None None bits few numbers ranged many = omega (arith, many, few)
few-ranged None (Some s) bits few numbers ranged many = absurd (none-some s numbers)
few-ranged (Some range) None bits few numbers ranged many = absurd (none-some (span_of range) (sym numbers))
few-ranged (Some range) (Some s) bits few numbers ranged many = ranged range s refl (same_Some (span_of range) s numbers) many

-- where a name breaks no rule, ports don't have too many bits
pub few-grouped : (xs : List Lexeme) (title : List ℕ) (groups : List (Group Direction)) (spec : Spec Direction) (names : List (List ℕ)) (x : List ℕ) (header : Header) (span : Option Span) → xs ≡ in_ansi title groups spec names → IsHeader header (flat_map group_names groups ++ names) (flat_map said_in_header groups ++ said_of spec.lead spec.range names) → option_map span_of spec.range ≡ span → (Contains (flat_map group_names groups ++ names) x → ⊥) → (BreaksRule xs (Name x) → ⊥) → MOST_PORT_BITS < bits_said (flat_map said_in_header groups ++ said_of spec.lead spec.range names) + span_width span → ⊥
few-grouped xs title groups spec names x header span is kept same new fine =
    few-ranged spec.range span (bits_said (flat_map said_in_header groups ++ said_of spec.lead spec.range names)) kept.few same (λ range s e numbers many. fine (subst (λ l. BreaksRule l (Name x)) (sym is) (inr (inr (inr (inr (inr (inr (inr (crowds-head title groups spec names x range e new (subst (λ n. MOST_PORT_BITS < n) (bits-grouped_more groups spec names range s e numbers) many)))))))))))

pub ansi_groups : (ports : Option Listing) → is_ansi ports ≡ true → (groups : Row (Group Direction)) × (ports ≡ Some (Ansi groups))
ansi_groups (Some (Ansi groups)) e = (groups, refl)
ansi_groups ports e = absurd cc

-- whether a declaration gives a direction
pub wires_of : (lead : Lead) → lead_output lead ≡ None → lead ≡ Wires
wires_of (Gives direction) e = absurd cc
wires_of Wires e = refl

pub gives_some : (lead : Lead) (output : Bool) → lead_output lead ≡ Some output → (direction : Direction) × (lead ≡ Gives direction) × (output ≡ is_output direction)
gives_some (Gives direction) output e = (direction, refl, sym (same_Some (is_output direction) output e))
gives_some Wires output e = absurd cc

pub wire_of : (spec : Spec Lead) (kept : Led) → kept.output ≡ lead_output spec.lead → is_some kept.output ≡ false → (direction : Direction) → spec.lead ≡ Gives direction → ⊥
wire_of spec kept same none direction gives = false≢true (sym none ∙ ap is_some (same ∙ ap lead_output gives))

pub gives_of : (spec : Spec Lead) (kept : Led) → kept.output ≡ lead_output spec.lead → is_some kept.output ≡ true → (direction : Direction) × (spec.lead ≡ Gives direction)
gives_of spec kept same some = by spec.lead (sym (ap is_some same) ∙ some)
  where
    by : (lead : Lead) → is_some (lead_output lead) ≡ true → (direction : Direction) × (lead ≡ Gives direction)
    by (Gives direction) e = (direction, refl)
    by Wires e = absurd (false≢true e)

-- a name of a declaration that gives a direction breaks no rule: it is in the header, has no direction yet, and ports
-- don't have too many bits
module _ (head : Head) (items : List Item) (spec : Spec Lead) (names : List (List ℕ)) (direction : Direction) (gives : spec.lead ≡ Gives direction) (x : List ℕ) where
  pub listed-fine : (BreaksRule (at_declared head items spec names) (Name x) → ⊥) → Contains (header_of head) x × (Contains (directed_by head items ++ names) x → ⊥)
  listed-fine fine = (by (among_or_not (header_of head) x), λ stands. against (inr stands))
    where
      against : ¬ Contains (header_of head) x ⊎ Contains (directed_by head items ++ names) x → ⊥
      against why = fine (inr (inr (inl (record { head = head; items = items; direction = direction; range = spec.range; names = names; is = ap (λ l. at_declared head items (record { lead = l; range = spec.range }) names) gives; breaks = why }))))

      by : Contains (header_of head) x ⊎ (Contains (header_of head) x → ⊥) → Contains (header_of head) x
      by (inl stands) = stands
      by (inr absent) = absurd (against (inl absent))

  pub few-body : (header : Header) (span : Option Span) → groups_of head.ports ≡ [] → IsHeader header (header_of head) (said_by (record { head = head; items = items }) ++ said_with spec names) → option_map span_of spec.range ≡ span → Contains (header_of head) x × (Contains (directed_by head items ++ names) x → ⊥) → (BreaksRule (at_declared head items spec names) (Name x) → ⊥) → MOST_PORT_BITS < bits_said (said_by (record { head = head; items = items }) ++ said_with spec names) + span_width span → ⊥
  few-body header span none kept same known fine =
      few-ranged spec.range span (bits_said (said_by (record { head = head; items = items }) ++ said_with spec names)) kept.few same (λ range s e numbers many. fine (inr (inr (inr (inr (inr (inr (inr (crowds-item head items spec names x direction range gives e known.0 known.1 (subst (λ n. MOST_PORT_BITS < n) (bits-body head items spec names direction gives none range s e numbers) many))))))))))

-- what holds of a draft that takes a name of a declaration of an item
pub declared_next : (head : Head) (items : List Item) (spec : Spec Lead) (names : List (List ℕ)) (x : List ℕ) (new : Draft) → KeepsNames new.known (at_declared head items spec names ++ Name x ∷ []) → IsSaid lead_output spec new.lead → IsEarly new → new.title.now ≡ head.name → new.ansi ≡ is_ansi head.ports → IsHeader new.header (header_of head) (said_by (record { head = head; items = items }) ++ said_with spec (names ++ x ∷ [])) → AreCellsOf (flat_map joined_in items) new.cells.items → IsDeclaredNext head items spec names x new
declared_next head items spec names x new kept said early title ansi header cells =
    (kept, said, early, (title, record { ansi = ansi; header = header; cells = cells }))
