-- A text without vectors that keeps the rules as a whole breaks none at any of its tokens.
use Rattle.ncl_reader.proofs.Terms.{◌≡◌, ℕ, List, ◌∷◌, ◌++◌, Option, Some, None, inl, inr, refl, sym, ap, ◌∙◌, subst, append_assoc, option_map, Module, LBracket, LParen, Lexeme, Word, Name, Mark, direction_phrase, Gives, lead_phrase, Range, spec_phrase, group_phrase, with_commas, name_phrase, body_phrase, IsDeclaring, span_of, IsDeclared, IsVector, Partial, spelled, [], option_and_then, same_Some, Text, text_phrase, Breaks, NoneBreaks, start, done, ◌≢◌, flat_map, Comma, RParen, Semi, Row, Direction, Plain, Wired, Lead, Wires, Group, Conn, conn_phrase, Item, Declares, Joins, item_phrase, Listing, Empty, Names, Ansi, header_phrase, head_phrase, row_phrase, AreWhole, IsScalar, AreScalar, IsPlain, zero, suc, Contains, false, arith, AllByRecursion, false≢true, append-nil, map-append, flat_map_more, Contains-append_left, Contains-append_right, IsDistinct-head, IsDistinct-tail, bytes_eq-Decides, CellKind, cell_name_of, pins_of, same_name, AllDiffer, EndModule, End, all_of, Spec, group_names, Head, groups_of, header_of, directed_in, directed_by, Joined, joined_in, IsInstanceOf, KeepsRules, led, GroupPart, leading, naming, going, begun, titled, listing, at_item, inside, declaring, celled, joining, dotted, opened, netted, pins_in, part_spelled, listed, joined, headed}
use Rattle.ncl_reader.proofs.RulesAt.{crowds_declares, NameAt, BreaksAt, breaks-here, Misgiven, some_given, pin_free, close_free}
use Rattle.ncl_reader.proofs.Steps.{step, run, run-append, run-spelled, run-between, grows-run, front_run, not_taken, breaks-taken}
use Rattle.ncl_reader.proofs.Facts.{part_names, Of, some_of}

-- no bracket stands
abbrev NoBracket : List Lexeme → Type 0
NoBracket xs = (front rest : List Lexeme) → xs ≡ front ++ Mark LBracket ∷ rest → ⊥

-- a list with another in it
in_middle : (a b c rest : List Lexeme) → a ++ ((b ++ (Mark LBracket ∷ rest)) ++ c) ≡ (a ++ b) ++ Mark LBracket ∷ (rest ++ c)
in_middle a b c rest = ap (λ l. a ++ l) (append_assoc b (Mark LBracket ∷ rest) c) ∙ sym (append_assoc a b (Mark LBracket ∷ (rest ++ c)))

bracket_in : {L : Type 0} (phrase : L → List Lexeme) (l : L) (range : Range) (front names : List Lexeme) → NoBracket (front ++ (spec_phrase phrase (record { lead = l; range = Some range }) ++ names)) → ⊥
bracket_in phrase l range front names none = none (front ++ phrase l) _ (in_middle front (phrase l) names _)

-- so a name isn't declared with a range
no_range : (xs : List Lexeme) (range : Range) → NoBracket xs → IsDeclaring xs (Some range) → ⊥
no_range xs range none (inl (title, groups, direction, names, is)) =
    bracket_in direction_phrase direction range (Word Module ∷ Name title ∷ Mark LParen ∷ with_commas (group_phrase direction_phrase) groups) (with_commas name_phrase names) (subst NoBracket is none)
no_range xs range none (inr (head, items, lead, names, is)) =
    bracket_in lead_phrase lead range (body_phrase head items) (with_commas name_phrase names) (subst NoBracket is none)

front_none : (xs front rest : List Lexeme) → xs ≡ front ++ rest → NoBracket xs → NoBracket front
front_none xs front rest is none a b e = none a (b ++ rest) (is ∙ ap (λ l. l ++ rest) e ∙ append_assoc a (Mark LBracket ∷ b) rest)

no_vector : (xs : List Lexeme) (x : List ℕ) (range : Range) → NoBracket xs → IsVector xs x range → ⊥
no_vector xs x range none (front, rest, is, declares) = no_range front range (front_none xs front (Name x ∷ rest) is none) declares

is_none : (xs : List Lexeme) (range : Option Range) → NoBracket xs → IsDeclaring xs range → range ≡ None
is_none xs None none declares = refl
is_none xs (Some range) none declares = absurd (no_range xs range none declares)

was_none : (xs : List Lexeme) (x : List ℕ) (range : Option Range) → NoBracket xs → IsDeclared xs x range → range ≡ None
was_none xs x range none (front, rest, is, declares) = is_none front range (front_none xs front (Name x ∷ rest) is none) declares

-- so a name breaks what its tree says or nothing
plain_free : (p : Partial) (x : List ℕ) → (NameAt p x → ⊥) → NoBracket (spelled p) → BreaksAt p (Name x) → ⊥
plain_free p x name none (inl b) = name b
plain_free p x name none (inr (inl (range, declares, inl (other, declared, differ)))) = differ (ap (option_map span_of) (was_none (spelled p) x other none declared ∙ sym (is_none (spelled p) range none declares)))
plain_free p x name none (inr (inl (range, declares, inr (some, used)))) = some (is_none (spelled p) range none declares)
plain_free p x name none (inr (inr (inl (inl (vector, range, k, same, is, covers))))) = no_vector (spelled p) vector range none is
plain_free p x name none (inr (inr (inl (inr (range, k, declares, covers, stands))))) = no_range (spelled p) range none declares
plain_free p x name none (inr (inr (inr c))) = let (range, declares) = crowds_declares (spelled p) x c in no_range (spelled p) range none declares

-- a token that is no bracket and breaks no rule where none stands
abbrev Fine : Partial → Lexeme → Type 0
Fine p (Mark LBracket) = ⊥
Fine p t = NoBracket (spelled p) → BreaksAt p t → ⊥

fine_free : (p : Partial) (t : Lexeme) → Fine p t → NoBracket (spelled p) → BreaksAt p t → ⊥
fine_free p (Mark LBracket) fine = absurd fine
fine_free p t fine = fine

-- from a partial tree on, each token of the list is taken and is such
abbrev Clean : Partial → List Lexeme → Type 0
Clean p [] = Unit {0}
Clean p (t ∷ ts) = Fine p t × Of (step p t) (λ q. Clean q ts)

clean-one : (p q : Partial) (t : Lexeme) (xs : List Lexeme) → step p t ≡ Some q → Fine p t → Clean q xs → Clean p (t ∷ xs)
clean-one p q t xs some fine clean = (fine, subst (λ next. Of next (λ r. Clean r xs)) (sym some) clean)

-- behind the first token
next_run : (p q r : Partial) (t : Lexeme) (xs : List Lexeme) → step p t ≡ Some r → run p (t ∷ xs) ≡ Some q → run r xs ≡ Some q
next_run p q r t xs is e = sym (ap (option_and_then (λ z. run z xs)) is) ∙ e

-- one list, and then another
clean-append : (p q : Partial) (xs ys : List Lexeme) → run p xs ≡ Some q → Clean p xs → Clean q ys → Clean p (xs ++ ys)
clean-append p q [] ys e front back = subst (λ r. Clean r ys) (sym (same_Some p q e)) back
clean-append p q (x ∷ xs) ys e (fine, front) back =
    let (r, is, clean) = some_of (step p x) _ front in
    clean-one p r x (xs ++ ys) is fine (clean-append r q xs ys (next_run p q r x xs is e) clean back)

-- in such a list no bracket stands, and no token breaks a rule
clean-bracket : (p : Partial) (front rest : List Lexeme) → Clean p (front ++ Mark LBracket ∷ rest) → ⊥
clean-bracket p [] rest clean = clean.0
clean-bracket p (f ∷ front) rest (fine, more) = let (r, is, clean) = some_of (step p f) _ more in clean-bracket r front rest clean

clean-at : (p q : Partial) (before : List Lexeme) (t : Lexeme) (after : List Lexeme) → Clean p (before ++ t ∷ after) → run p before ≡ Some q → NoBracket (spelled q) → BreaksAt q t → ⊥
clean-at p q [] t after clean e = fine_free q t (subst (λ r. Clean r (t ∷ after)) (same_Some p q e) clean).0
clean-at p q (b ∷ before) t after (fine, more) e =
    let (r, is, clean) = some_of (step p b) _ more in
    clean-at r q before t after clean (next_run p q r b before is e)

-- so no token of a derived list breaks
unbroken-clean : (text : Text) → Clean start (text_phrase text) → NoneBreaks (text_phrase text)
unbroken-clean text clean before t after e breaks =
    let all = done text.head text.items in
    let whole : run start (before ++ t ∷ after) ≡ Some all = ap (run start) (sym e) ∙ run-spelled all in
    let (q, at) = front_run start all before (t ∷ after) whole in
    let here : spelled q ≡ before = grows-run start q before at in
    let front : NoBracket (spelled q) = subst NoBracket (sym here) (front_none (text_phrase text) before (t ∷ after) e (λ f r is. clean-bracket start f r (subst (Clean start) is clean))) in
    by q (step q t) refl (sym (run-append start q before (t ∷ after) at) ∙ whole) (subst (λ b. Breaks b t) (sym here) breaks) (clean-at start q before t after (subst (Clean start) e clean) at front)
  where
    by : (q : Partial) (next : Option Partial) → step q t ≡ next → run q (t ∷ after) ≡ Some (done text.head text.items) → Breaks (spelled q) t → (BreaksAt q t → ⊥) → ⊥
    by q None s goes breaks no_rule = not_taken q (done text.head text.items) t after s goes
    by q (Some r) s goes breaks no_rule = no_rule (breaks-here q t (breaks-taken q r t s breaks))

-- a name of names that differ stands only once
tested : (z : List ℕ) (xs : List (List ℕ)) (x : List ℕ) (ys : List (List ℕ)) → AllByRecursion (λ y. same_name z y ≡ false) (xs ++ x ∷ ys) → same_name z x ≡ false
tested z [] x ys all = all.0
tested z (w ∷ xs) x ys all = tested z xs x ys all.1

not_again : (xs : List (List ℕ)) (x : List ℕ) (ys : List (List ℕ)) → AllDiffer (xs ++ x ∷ ys) → Contains xs x → ⊥
not_again [] x ys differ found = absurd (omega (arith, found.1))
not_again (z ∷ xs) x ys differ (zero, lt, e) = false≢true (sym (tested z xs x ys (IsDistinct-head same_name z (xs ++ x ∷ ys) differ)) ∙ (bytes_eq-Decides z x).1 e)
not_again (z ∷ xs) x ys differ (suc k, lt, e) = not_again xs x ys (IsDistinct-tail same_name z (xs ++ x ∷ ys) differ) (k, omega (arith, lt), e)

-- the names of a header
clean-listing : (title : List ℕ) (some names rest : List (List ℕ)) → AllDiffer (some ++ (names ++ rest)) → Clean (listing title some) (with_commas name_phrase names)
clean-listing title some [] rest differ = tt
clean-listing title some (x ∷ names) rest differ =
    let more = subst AllDiffer (sym (append_assoc some (x ∷ []) (names ++ rest))) differ in
    (plain_free (listing title some) x (not_again some x (names ++ rest) differ), (λ n b. b, clean-listing title (some ++ x ∷ []) names rest more))

clean-listed : (title : List ℕ) (names : Row (List ℕ)) → AllDiffer (all_of names) → Clean (listing title []) (row_phrase name_phrase names)
clean-listed title names differ =
    clean-append _ _ (with_commas name_phrase names.before) _ (run-between (listing title []) (listing title names.before) _ refl) (clean-listing title [] names.before (names.last ∷ []) differ)
    (plain_free (listing title names.before) names.last (not_again names.before names.last [] differ), tt)

clean-head : (title : List ℕ) (ports : Option Listing) → ((groups : Row (Group Direction)) → ports ≢ Some (Ansi groups)) → AllDiffer (header_of (record { name = title; ports = ports })) → Clean start (head_phrase (record { name = title; ports = ports }))
clean-head title ports plain differ = (λ n b. b, (plain_free begun title (λ none. none), behind ports plain differ))
  where
    behind : (ports : Option Listing) → ((groups : Row (Group Direction)) → ports ≢ Some (Ansi groups)) → AllDiffer (header_of (record { name = title; ports = ports })) → Clean (titled title) (header_phrase ports ++ Mark Semi ∷ [])
    behind None plain differ = (λ n b. b, tt)
    behind (Some Empty) plain differ = (λ n b. b, (λ n b. b, (λ n b. b, tt)))
    behind (Some (Names names)) plain differ =
        let listed = clean-append _ _ (row_phrase name_phrase names) (Mark RParen ∷ []) (run-between (listing title []) (listed title names.before names.last) _ refl) (clean-listed title names differ) (λ n b. b, tt) in
        (λ n b. b, clean-append _ _ (row_phrase name_phrase names ++ Mark RParen ∷ []) (Mark Semi ∷ []) (run-between (listing title []) (headed title (Names names)) _ refl) listed (λ n b. b, tt))
    behind (Some (Ansi groups)) plain differ = absurd (plain groups refl)

-- the names of a declaration
module _ (head : Head) (items : List Item) (l : Lead) where
  abbrev spec_here : Spec Lead
  spec_here = record { lead = l; range = None }

  abbrev here : GroupPart Lead → Partial
  here part = inside head items (declaring part)

  -- it gives a direction
  abbrev IsGiving : Type 0
  IsGiving = (d : Direction) × (l ≡ Gives d)

  clean-name : (names : List (List ℕ)) (x : List ℕ) (rest : List (List ℕ)) → (IsGiving → AllDiffer ((directed_by head items ++ names) ++ x ∷ rest)) → (IsGiving → Contains (header_of head) x) → Misgiven head items spec_here names x → ⊥
  clean-name names x rest differ known given =
      let (d, gives, breaks) = some_given l _ given in
      elim breaks [
        | inl absent ↦ absent (known (d, gives))
        | inr again ↦ not_again (directed_by head items ++ names) x rest (differ (d, gives)) again
      ]

  clean-going : (part : GroupPart Lead) → ((x : List ℕ) → step (here part) (Name x) ≡ Some (here (naming spec_here (part_names part) x))) → ((x : List ℕ) → NameAt (here part) x → Misgiven head items spec_here (part_names part) x) → (names : List (List ℕ)) (last : List ℕ) (rest : List (List ℕ)) → (IsGiving → AllDiffer ((directed_by head items ++ part_names part) ++ (names ++ last ∷ rest))) → (IsGiving → (x : List ℕ) → Contains (names ++ last ∷ []) x → Contains (header_of head) x) → Clean (here part) (with_commas name_phrase names ++ Name last ∷ [])
  clean-going part goes told [] last rest differ known =
      clean-one (here part) (here (naming spec_here (part_names part) last)) (Name last) [] (goes last)
      (plain_free (here part) last (λ b. clean-name (part_names part) last rest differ (λ gives. known gives last (0, omega arith, refl)) (told last b))) tt
  clean-going part goes told (x ∷ names) last rest differ known =
      let row : Row (List ℕ) = record { before = part_names part; last = x } in
      let more : (directed_by head items ++ part_names part) ++ x ∷ (names ++ last ∷ rest) ≡ (directed_by head items ++ all_of row) ++ (names ++ last ∷ rest) =
      sym (append_assoc (directed_by head items ++ part_names part) (x ∷ []) (names ++ last ∷ rest)) ∙ ap (λ k. k ++ (names ++ last ∷ rest)) (append_assoc (directed_by head items) (part_names part) (x ∷ [])) in
      clean-one (here part) (here (naming spec_here (part_names part) x)) (Name x) (Mark Comma ∷ (with_commas name_phrase names ++ Name last ∷ [])) (goes x)
      (plain_free (here part) x (λ b. clean-name (part_names part) x (names ++ last ∷ rest) differ (λ gives. known gives x (0, omega arith, refl)) (told x b)))
      (λ n b. b, clean-going (going spec_here row) (λ y. refl) (λ y b. b) names last rest (λ gives. subst AllDiffer more (differ gives)) (λ gives y found. known gives y (Contains-append_right (x ∷ []) (names ++ last ∷ []) y found)))

module _ (head : Head) (items : List Item) (plain : (groups : Row (Group Direction)) → head.ports ≢ Some (Ansi groups)) where
  clean-word : (l : Lead) → Clean (at_item head items) (lead_phrase l)
  clean-word (Gives (Plain way)) = (λ n (groups, ansi). plain groups ansi, tt)
  clean-word (Gives (Wired way)) = (λ n (groups, ansi). plain groups ansi, (λ n b. b, tt))
  clean-word Wires = (λ n b. b, tt)

  clean-declares : (l : Lead) (names : Row (List ℕ)) (rest : List (List ℕ)) → (IsGiving head items l → AllDiffer (directed_by head items ++ (all_of names ++ rest))) → (IsGiving head items l → (x : List ℕ) → Contains (all_of names) x → Contains (header_of head) x) → Clean (at_item head items) (item_phrase (Declares (record { spec = record { lead = l; range = None }; names = names })))
  clean-declares l names rest differ known =
      let first : IsGiving head items l → AllDiffer ((directed_by head items ++ []) ++ (names.before ++ names.last ∷ rest)) = λ gives. subst (λ k. AllDiffer (k ++ (names.before ++ names.last ∷ rest))) (sym (append-nil (directed_by head items))) (subst (λ k. AllDiffer (directed_by head items ++ k)) (append_assoc names.before (names.last ∷ []) rest) (differ gives)) in
      let start_here = inside head items (declaring (leading (led l))) in
      let all = inside head items (declaring (naming (record { lead = l; range = None }) names.before names.last)) in
      let listed = clean-append (at_item head items) start_here (lead_phrase l) (row_phrase name_phrase names) (run-between (at_item head items) start_here _ refl) (clean-word l) (clean-going head items l (leading (led l)) (λ x. refl) (λ x b. b) names.before names.last rest first known) in
      let runs = run-between (at_item head items) all _ (ap (λ k. body_phrase head items ++ (k ++ row_phrase name_phrase names)) (append-nil (lead_phrase l))) in
      subst (λ k. Clean (at_item head items) ((k ++ row_phrase name_phrase names) ++ Mark Semi ∷ [])) (sym (append-nil (lead_phrase l)))
      (clean-append (at_item head items) all (lead_phrase l ++ row_phrase name_phrase names) (Mark Semi ∷ []) runs listed (λ n b. b, tt))

-- the connections of an instance
module _ (head : Head) (items : List Item) (kind : CellKind) (name : List ℕ) where
  abbrev with_conns : List Conn → Partial
  with_conns conns = inside head items (joining (cell_name_of kind) name conns)

  conn_goes : (some : List Conn) (c : Conn) → run (with_conns some) (conn_phrase c) ≡ Some (inside head items (joined (cell_name_of kind) name some c))
  conn_goes some c = run-between (with_conns some) _ (conn_phrase c) (sym (append_assoc (body_phrase head items) (part_spelled (joining (cell_name_of kind) name some)) (conn_phrase c)))

  clean-conn : (some : List Conn) (c : Conn) → c.net.index ≡ None → Contains (pins_of kind) c.pin → (Contains (pins_in some) c.pin → ⊥) → Clean (with_conns some) (conn_phrase c)
  clean-conn some c whole has new =
      let tree = inside head items (netted (cell_name_of kind) name some c.pin c.net.name) in
      let pin = plain_free (inside head items (dotted (cell_name_of kind) name some)) c.pin (pin_free head items kind name some c.pin (has, new)) in
      let net = plain_free (inside head items (opened (cell_name_of kind) name some c.pin)) c.net.name (λ none. none) in
      subst (λ i. Clean (with_conns some) (conn_phrase (record { pin = c.pin; net = record { name = c.net.name; index = i } }))) (sym whole)
      (λ n b. b, (pin, (λ n b. b, (net, (λ free (range, vector). no_vector (spelled tree) c.net.name range free vector, tt)))))

  clean-joining : (some conns : List Conn) (rest : List (List ℕ)) → AreWhole conns → AllDiffer (pins_in some ++ (pins_in conns ++ rest)) → ((x : List ℕ) → Contains (pins_in conns) x → Contains (pins_of kind) x) → Clean (with_conns some) (with_commas conn_phrase conns)
  clean-joining some [] rest whole differ has = tt
  clean-joining some (c ∷ conns) rest whole differ has =
      let more : pins_in some ++ c.pin ∷ (pins_in conns ++ rest) ≡ pins_in (some ++ c ∷ []) ++ (pins_in conns ++ rest) =
      sym (append_assoc (pins_in some) (c.pin ∷ []) (pins_in conns ++ rest)) ∙ ap (λ l. l ++ (pins_in conns ++ rest)) (sym (map-append (λ (d : Conn). d.pin) some (c ∷ []))) in
      let conn = clean-conn some c whole.0 (has c.pin (0, omega arith, refl)) (not_again (pins_in some) c.pin (pins_in conns ++ rest) differ) in
      let one = clean-append (with_conns some) _ (conn_phrase c) (Mark Comma ∷ []) (conn_goes some c) conn (λ n b. b, tt) in
      clean-append (with_conns some) (with_conns (some ++ c ∷ [])) (conn_phrase c ++ Mark Comma ∷ []) (with_commas conn_phrase conns)
      (run-append (with_conns some) _ (conn_phrase c) (Mark Comma ∷ []) (conn_goes some c)) one
      (clean-joining (some ++ c ∷ []) conns rest whole.1 (subst AllDiffer more differ) (λ x found. has x (Contains-append_right (c.pin ∷ []) (pins_in conns) x found)))

  whole_before : (before : List Conn) (last : Conn) → AreWhole (before ++ last ∷ []) → AreWhole before × (last.net.index ≡ None)
  whole_before [] last whole = (tt, whole.0)
  whole_before (c ∷ before) last whole = let (more, one) = whole_before before last whole.1 in ((whole.0, more), one)

  clean-joins : (conns : Row Conn) → AreWhole (all_of conns) → IsInstanceOf kind (record { cell = cell_name_of kind; name = name; conns = all_of conns }) → Clean (at_item head items) (item_phrase (Joins (cell_name_of kind) name conns))
  clean-joins conns whole is =
      let (before, last) = whole_before conns.before conns.last whole in
      let pins : pins_in (all_of conns) ≡ pins_in conns.before ++ conns.last.pin ∷ [] = map-append (λ (d : Conn). d.pin) conns.before (conns.last ∷ []) in
      let differ : AllDiffer (pins_in conns.before ++ conns.last.pin ∷ []) = subst AllDiffer pins is.once in
      let has : (x : List ℕ) → Contains (pins_in conns.before ++ conns.last.pin ∷ []) x → Contains (pins_of kind) x = λ x found. (is.pins x).1 (subst (λ l. Contains l x) (sym pins) found) in
      let front = clean-append (with_conns []) (with_conns conns.before) (with_commas conn_phrase conns.before) (conn_phrase conns.last) (run-between (with_conns []) (with_conns conns.before) _ (sym (append_assoc (body_phrase head items) (part_spelled (joining (cell_name_of kind) name [])) _)))
      (clean-joining [] conns.before (conns.last.pin ∷ []) before differ (λ x found. has x (Contains-append_left (pins_in conns.before) (conns.last.pin ∷ []) x found)))
      (clean-conn conns.before conns.last last (has conns.last.pin (Contains-append_right (pins_in conns.before) (conns.last.pin ∷ []) conns.last.pin (0, omega arith, refl))) (not_again (pins_in conns.before) conns.last.pin [] differ)) in (
        plain_free (at_item head items) (cell_name_of kind) (λ none. none kind refl),
        (
          plain_free (inside head items (celled (cell_name_of kind))) name (λ none. none),
          (
            λ n b. b,
            clean-append (with_conns []) _ (row_phrase conn_phrase conns) (Mark RParen ∷ Mark Semi ∷ []) (run-between (with_conns []) (inside head items (joined (cell_name_of kind) name conns.before conns.last)) _ (sym (append_assoc (body_phrase head items) (part_spelled (joining (cell_name_of kind) name [])) _))) front
                (λ n. close_free head items kind name conns.before conns.last (λ x stands. (is.pins x).0 stands), (λ n b. b, tt)),
          ),
        ),
      )

-- the instance is of some cell
abbrev HasCell : Joined → Type 0
HasCell j = (kind : CellKind) × IsInstanceOf kind j

-- the names that a declaration gives a direction
directs_names : (group : Group Lead) (d : Direction) → group.spec.lead ≡ Gives d → directed_in (Declares group) ≡ group_names group
directs_names group d gives = by group.spec.lead gives
  where
    by : (l : Lead) → l ≡ Gives d → directed_in (Declares (record { spec = record { lead = l; range = group.spec.range }; names = group.names })) ≡ group_names group
    by (Gives e) gives = refl
    by Wires gives = absurd cc

module _ (head : Head) (plain : (groups : Row (Group Direction)) → head.ports ≢ Some (Ansi groups)) where
  clean-item : (some : List Item) (item : Item) (rest : List (List ℕ)) → IsScalar item → AllDiffer (directed_by head some ++ (directed_in item ++ rest)) → ((x : List ℕ) → Contains (directed_in item) x → Contains (header_of head) x) → ((j : Joined) → Contains (joined_in item) j → HasCell j) → Clean (at_item head some) (item_phrase item)
  clean-item some (Declares group) rest scalar differ known cells =
      subst (λ r. Clean (at_item head some) (item_phrase (Declares (record { spec = record { lead = group.spec.lead; range = r }; names = group.names })))) (sym scalar)
      (clean-declares head some plain group.spec.lead group.names rest
      (λ (d, gives). subst (λ l. AllDiffer (directed_by head some ++ (l ++ rest))) (directs_names group d gives) differ)
      (λ (d, gives) x found. known x (subst (λ l. Contains l x) (sym (directs_names group d gives)) found)))
  clean-item some (Joins cell name conns) rest scalar differ known cells =
      let (kind, is) = cells (record { cell = cell; name = name; conns = all_of conns }) (0, omega arith, refl) in
      subst (λ c. Clean (at_item head some) (item_phrase (Joins c name conns))) is.cell (clean-joins head some kind name conns scalar (record { cell = refl; once = is.once; pins = is.pins }))

  -- the header gives no direction
  more_directed : (some : List Item) (item : Item) (items : List Item) → directed_by head some ++ (directed_in item ++ flat_map directed_in items) ≡ directed_by head (some ++ item ∷ []) ++ flat_map directed_in items
  more_directed some item items =
      sym (append_assoc (directed_by head some) (directed_in item) (flat_map directed_in items))
      ∙ ap (λ l. l ++ flat_map directed_in items) (append_assoc (flat_map group_names (groups_of head.ports)) (flat_map directed_in some) (directed_in item) ∙ ap (λ l. flat_map group_names (groups_of head.ports) ++ l) (flat_map_more directed_in [] some item))

  clean-items : (some items : List Item) → AreScalar items → AllDiffer (directed_by head some ++ flat_map directed_in items) → ((x : List ℕ) → Contains (flat_map directed_in items) x → Contains (header_of head) x) → ((j : Joined) → Contains (flat_map joined_in items) j → HasCell j) → Clean (at_item head some) (flat_map item_phrase items)
  clean-items some [] scalar differ known cells = tt
  clean-items some (item ∷ items) scalar differ known cells =
      clean-append (at_item head some) (at_item head (some ++ item ∷ [])) (item_phrase item) (flat_map item_phrase items) (run-between (at_item head some) (at_item head (some ++ item ∷ [])) _ (sym (flat_map_more item_phrase (head_phrase head) some item)))
      (clean-item some item (flat_map directed_in items) scalar.0 differ (λ x found. known x (Contains-append_left (directed_in item) (flat_map directed_in items) x found)) (λ j found. cells j (Contains-append_left (joined_in item) (flat_map joined_in items) j found)))
      (clean-items (some ++ item ∷ []) items scalar.1 (subst AllDiffer (more_directed some item items) differ) (λ x found. known x (Contains-append_right (directed_in item) (flat_map directed_in items) x found)) (λ j found. cells j (Contains-append_right (joined_in item) (flat_map joined_in items) j found)))

-- the whole text
pub whole_rules : (text : Text) → IsPlain text → KeepsRules text → NoneBreaks (text_phrase text)
whole_rules text plain keeps =
    let head = text.head in
    let items = text.items in
    let cells : (j : Joined) → Contains (flat_map joined_in items) j → HasCell j = λ j (k, lt, e). subst HasCell e (keeps.cells k j lt) in
    let named = flat_map group_names (groups_of head.ports) in
    let once : AllDiffer (directed_by head [] ++ flat_map directed_in items) = subst (λ l. AllDiffer (l ++ flat_map directed_in items)) (sym (append-nil named)) keeps.once in
    let body = clean-append start (at_item head []) (head_phrase head) (flat_map item_phrase items) (run-between start (at_item head []) _ (append-nil (head_phrase head))) (clean-head head.name head.ports plain.header keeps.header)
    (clean-items head plain.header [] items plain.items once (λ x found. (keeps.directed x).1 (Contains-append_right named (flat_map directed_in items) x found)) cells) in
    unbroken-clean text (clean-append start (at_item head items) (body_phrase head items) (Word EndModule ∷ End ∷ []) (run-spelled (at_item head items)) body
    (λ n (port, stands, undirected). undirected ((keeps.directed port).0 stands), (λ n b. b, tt)))
